-- The soonest front is that of its board.
use Rattle.std.proofs.Common.{◌≡◌, ℕ, suc, ◌+◌, ◌-◌, ◌<◌, ◌≤◌, Bool, true, false, cond, ◌⊎◌, List, [], ◌∷◌, length, get_or, Some, None, Option, sym, ap, ◌∙◌, inl, inr, ⊎_elim, arith}
use Rattle.bus.specs.Order.{message_before}
use Rattle.bus.specs.declared.Message.{Message}
use Rattle.model.specs.Lines.{front_of, nearer_front, soonest}
use Rattle.model.specs.State.{Queues, no_queues}
use Rattle.model.specs.declared.front.Front.{Front}

same_front : (k : ℕ) (m : Message) (f : Front) → ◌≡◌ {A = Option Front} (Some (record { board = k; message = m })) (Some f) → (f.board ≡ k) × (Some m ≡ Some f.message)
same_front k m f e =
    let g : Front = record { board = k; message = m } in
    let h : g ≡ f = cc in
    (sym (ap (λ (x : Front). x.board) h), ap (λ (x : Front). Some x.message) h)

nearer_cases : (k : ℕ) (a : Option Message) (r : Option Front) (f : Front) → nearer_front k a r ≡ Some f → (r ≡ Some f) ⊎ ((f.board ≡ k) × (a ≡ Some f.message))
nearer_cases k None r f e = inl e
nearer_cases k (Some m) None f e = inr (same_front k m f e)
nearer_cases k (Some m) (Some g) f e =
    let h : Front = record { board = k; message = m } in
    let both : (b : Bool) → cond b (Some g) (Some h) ≡ Some f → (Some g ≡ Some f) ⊎ ((f.board ≡ k) × (Some m ≡ Some f.message)) = λ b.
    elim b as (λ b. cond b (Some g) (Some h) ≡ Some f → (Some g ≡ Some f) ⊎ ((f.board ≡ k) × (Some m ≡ Some f.message))) [
      | true ↦ λ x. inl x
      | false ↦ λ x. inr (same_front k m f x)
    ] in
    both (message_before g.message m) e

-- f is the front of its board, one of those from board k on
abbrev pub There : ℕ → List Queues → Front → Type 0
There k bs f = (k ≤ f.board) × (f.board < k + length bs) × (front_of (get_or bs (f.board - k) no_queues) ≡ Some f.message)

pub soonest_there : (k : ℕ) (bs : List Queues) (f : Front) → soonest k bs ≡ Some f → There k bs f
soonest_there k [] f e = let z : ◌≡◌ {A = ℕ} 0 1 = cc in absurd (omega arith)
soonest_there k (q ∷ bs) f e =
    ⊎_elim
    (λ (h : soonest (k + 1) bs ≡ Some f).
    let t = soonest_there (k + 1) bs f h in
    let n : f.board - k ≡ suc (f.board - (k + 1)) = omega (arith, t.0) in
    (omega (arith, t.0), omega (arith, t.1), ap (λ (i : ℕ). front_of (get_or (q ∷ bs) i no_queues)) n ∙ t.2))
    (λ (h : (f.board ≡ k) × (front_of q ≡ Some f.message)).
    let n : f.board - k ≡ 0 = omega (arith, h.0) in
    (omega (arith, h.0), omega (arith, h.0), ap (λ (i : ℕ). front_of (get_or (q ∷ bs) i no_queues)) n ∙ h.1))
    (nearer_cases k (front_of q) (soonest (k + 1) bs) f e)

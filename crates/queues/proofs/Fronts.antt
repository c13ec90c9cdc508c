-- The least front of the boards, from the first board on.
use Rattle.std.proofs.Common.{◌≡◌, ℕ, ◌+◌, List, [], ◌∷◌, map, Some, None, Option, sym, refl, ap, ◌∙◌, inl, inr}
use Rattle.std.specs.List.{fold, enumerate_from}
use Rattle.std.proofs.lemmas.Bool.{cases_Bool, true≢false}
use Rattle.rows.proofs.Keys.{into_right}
use Rattle.bus.specs.declared.Message.{Message}
use Rattle.bus.specs.Order.{message_before, message_total}
use Rattle.model.specs.declared.front.Front.{Front}
use Rattle.model.specs.Lines.{soonest, nearer_front, front_of}
use Rattle.queues.specs.declared.board.BoardQueues.{BoardQueues}
use Rattle.queues.specs.Entries.{queues_of}
use Rattle.queues.specs.Fronts.{sooner}

-- the front so far, and the least of later boards
abbrev onto : Option Front → Option Front → Option Front
onto None r = r
onto (Some f) r = nearer_front f.board (Some f.message) r

-- of three, it does not matter which two are compared first
turned : (b : Option Front) (k : ℕ) (x : Option Message) (r : Option Front) → onto (sooner b k x) r ≡ onto b (nearer_front k x r)
turned None k None r = refl
turned None k (Some m) r = refl
turned (Some f) k None r = refl
turned (Some f) k (Some m) None = elim (cases_Bool (message_before m f.message)) [
  | inl h ↦ rw h refl
  | inr h ↦ rw h refl
]
turned (Some f) k (Some m) (Some g) = elim (cases_Bool (message_before m f.message)) [
  | inl h ↦ elim (cases_Bool (message_before g.message m)) [
    | inl e ↦ rw (h, e, message_total.transitive g.message m f.message e h) refl
    | inr e ↦ rw (h, e, h) refl
  ]
  | inr h ↦ elim (cases_Bool (message_before g.message m)) [
    | inl e ↦ rw (h, e) refl
    | inr e ↦ elim (cases_Bool (message_before g.message f.message)) [
      | inl l ↦ absurd (true≢false (sym (into_right message_total g.message f.message m l h) ∙ e))
      | inr l ↦ rw (h, e, l, h) refl
    ]
  ]
]

pub soonest_from : (b : Option Front) (k : ℕ) (bs : List BoardQueues) → fold (λ best (p : ℕ × BoardQueues). sooner best p.0 (front_of (queues_of p.1))) b (enumerate_from k bs) ≡ onto b (soonest k (map queues_of bs))
soonest_from None k [] = refl
soonest_from (Some f) k [] = refl
soonest_from b k (q ∷ bs) = soonest_from (sooner b k (front_of (queues_of q))) (k + 1) bs ∙ turned b k (front_of (queues_of q)) (soonest (k + 1) (map queues_of bs))

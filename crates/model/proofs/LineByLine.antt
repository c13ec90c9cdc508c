-- To commit lines is to commit the first, and then the others.
use Rattle.std.proofs.Common.{◌≡◌, ℕ, zero, suc, ◌+◌, ◌<◌, List, [], ◌∷◌, length, get_or, take, drop, set, Some, sym, refl, ap, ◌∙◌, ap₂, add-zero, arith}
use Rattle.std.proofs.lemmas.List.{append-nil, length-append}
use Rattle.std.proofs.lemmas.Bool.{eq-eqb, ne_eqb}
use Rattle.bus.specs.declared.Message.{Message}
use Rattle.savers.specs.Rows.{Row}
use Rattle.model.specs.Commit.{forget_from, last_line, share, shed, shed_from}
use Rattle.model.specs.State.{Counters, Event, Queues, State, at_board, more_committed, no_queues, row_at, sends_of}

-- the boards' shares of the lines, each used by `op`
abbrev spread : {A : Type 0} → (ℕ → A → A) → ℕ → List Message → List A → List A
spread op k ls [] = []
spread op k ls (x ∷ xs) = op (share k ls) x ∷ spread op (k + 1) ls xs

spread_shed : (k : ℕ) (ls : List Message) (qs : List Queues) → shed_from k ls qs ≡ spread shed k ls qs
spread_shed k ls [] = refl
spread_shed k ls (q ∷ qs) = ap (λ l. shed (share k ls) q ∷ l) (spread_shed (k + 1) ls qs)

spread_forget : (k : ℕ) (ls : List Message) (rs : List Row) → forget_from k ls rs ≡ spread drop k ls rs
spread_forget k ls [] = refl
spread_forget k ls (r ∷ rs) = ap (λ l. drop (share k ls) r ∷ l) (spread_forget (k + 1) ls rs)

module _ {A : Type 0} (op : ℕ → A → A) where
  spread_none : ((x : A) → op 0 x ≡ x) → (k : ℕ) (xs : List A) → spread op k [] xs ≡ xs
  spread_none h k [] = refl
  spread_none h k (x ∷ xs) = ap₂ (λ y ys. y ∷ ys) (h x) (spread_none h (k + 1) xs)

  share_here : (l : Message) (ls : List Message) (k : ℕ) → l.destination ≡ k → share k (l ∷ ls) ≡ suc (share k ls)
  share_here l ls k h = rw (eq-eqb l.destination k h)

  share_there : (l : Message) (ls : List Message) (k : ℕ) → (l.destination ≡ k → ⊥) → share k (l ∷ ls) ≡ share k ls
  share_there l ls k h = rw (ne_eqb l.destination k h)

  spread_past : (l : Message) (ls : List Message) (k : ℕ) (xs : List A) → l.destination < k → spread op k (l ∷ ls) xs ≡ spread op k ls xs
  spread_past l ls k [] h = refl
  spread_past l ls k (x ∷ xs) h = ap₂ (λ n ys. op n x ∷ ys) (share_there l ls k (λ e. omega arith)) (spread_past l ls (k + 1) xs (omega arith))

  spread_first : ((n : ℕ) (x : A) → op (suc n) x ≡ op n (op 1 x)) → (d : A) (l : Message) (ls : List Message) (k i : ℕ) (xs : List A) → l.destination ≡ k + i →
      spread op k (l ∷ ls) xs ≡ spread op k ls (set xs i (op 1 (get_or xs i d)))
  spread_first h d l ls k i [] e = refl
  spread_first h d l ls k zero (x ∷ xs) e =
      ap₂ (λ y ys. y ∷ ys) (ap (λ n. op n x) (share_here l ls k (omega arith)) ∙ h (share k ls) x) (spread_past l ls (k + 1) xs (omega arith))
  spread_first h d l ls k (suc i) (x ∷ xs) e =
      ap₂ (λ n ys. op n x ∷ ys) (share_there l ls k (λ f. omega arith)) (spread_first h d l ls (k + 1) i xs (omega arith))

-- the two uses
drop_first : {A : Type 0} (n : ℕ) (xs : List A) → drop (suc n) xs ≡ drop n (drop 1 xs)
drop_first zero [] = refl
drop_first (suc n) [] = refl
drop_first n (x ∷ xs) = refl

sends_first : (n : ℕ) (es : List Event) → length (sends_of (take (suc n) es)) ≡ length (sends_of (take 1 es)) + length (sends_of (take n (drop 1 es)))
sends_first zero [] = refl
sends_first (suc n) [] = refl
sends_first n (e ∷ es) = length-append e.sends (sends_of (take n es)) ∙ ap (λ l. length l + length (sends_of (take n es))) (sym (append-nil e.sends))

shed_none : (q : Queues) → shed 0 q ≡ q
shed_none q = λ i. record { standing = q.standing; open_ones = q.open_ones; early = q.early; sent = add-zero q.sent i }

shed_first : (n : ℕ) (q : Queues) → shed (suc n) q ≡ shed n (shed 1 q)
shed_first n q =
    let p = drop_first n q.standing in
    let r : q.sent + length (sends_of (take (suc n) q.standing)) ≡ q.sent + length (sends_of (take 1 q.standing)) + length (sends_of (take n (drop 1 q.standing)))
    = omega (arith, sends_first n q.standing) in
    λ i. record { standing = p i; open_ones = q.open_ones; early = q.early; sent = r i }

-- a bench that commits lines
abbrev pub committed_on : List Message → State → State
committed_on ls s = record {
  rows = forget_from 0 ls s.rows;
  boards = shed_from 0 ls s.boards;
  transit = s.transit;
  counters = more_committed (length ls) s.counters;
  last = last_line s.last ls;
}

abbrev pub first_on : Message → State → State
first_on l s = record {
  rows = set s.rows l.destination (drop 1 (row_at s l.destination));
  boards = set s.boards l.destination (shed 1 (at_board s l.destination));
  transit = s.transit;
  counters = more_committed 1 s.counters;
  last = Some l;
}

abbrev counted : Counters → ℕ → Counters
counted c n = record { offers = c.offers; runs = c.runs; committed = n; undone = c.undone }

pub committed_none : (s : State) → committed_on [] s ≡ s
committed_none s =
    let p = spread_forget 0 [] s.rows ∙ spread_none drop (λ x. refl) 0 s.rows in
    let q = spread_shed 0 [] s.boards ∙ spread_none shed shed_none 0 s.boards in
    λ i. record { rows = p i; boards = q i; transit = s.transit; counters = counted s.counters (add-zero s.counters.committed i); last = s.last }

pub committed_first : (l : Message) (ls : List Message) (s : State) → committed_on (l ∷ ls) s ≡ committed_on ls (first_on l s)
committed_first l ls s =
    let p = spread_forget 0 (l ∷ ls) s.rows ∙ spread_first drop drop_first [] l ls 0 l.destination s.rows (omega arith) ∙ sym (spread_forget 0 ls (first_on l s).rows) in
    let q = spread_shed 0 (l ∷ ls) s.boards ∙ spread_first shed shed_first no_queues l ls 0 l.destination s.boards (omega arith) ∙ sym (spread_shed 0 ls (first_on l s).boards) in
    let r : s.counters.committed + length (l ∷ ls) ≡ s.counters.committed + 1 + length ls = omega arith in
    λ i. record { rows = p i; boards = q i; transit = s.transit; counters = counted s.counters (r i); last = last_line (Some l) ls }

-- How many events stand, and how many messages they sent, once one board has changed.
use Rattle.std.proofs.Common.{◌≡◌, ℕ, zero, suc, ◌+◌, ◌-◌, ◌<◌, ◌≤◌, List, [], ◌∷◌, ◌++◌, map, length, get_or, set, Some, sym, ap, ◌∙◌, arith}
use Rattle.std.proofs.lemmas.List.{length-append, length-map, length-drop, map-set}
use Rattle.bus.specs.declared.Message.{Message}
use Rattle.model.specs.State.{Event, Queues, no_queues, flat, sends_of, standing_of, issued}
use Rattle.model.specs.Commit.{shed}
use Rattle.model.specs.declared.front.Front.{Front}
use Rattle.model.specs.Lines.{first_event, front_of, soonest}
use Rattle.model.proofs.Fronts.{soonest_there}
use Rattle.queues.specs.declared.board.BoardQueues.{BoardQueues}
use Rattle.queues.specs.declared.table.Table.{Table}
use Rattle.queues.specs.Entries.{queues_of, boards_in, board_in, first_message, stood_on}
use Rattle.queues.proofs.Changes.{sends_count}
use Rattle.bench.specs.Counts.{all_standing}

stand_first : (q : Queues) (bs : List Queues) → all_standing (q ∷ bs) ≡ length q.standing + all_standing bs
stand_first q bs = length-append (standing_of q) (flat (map standing_of bs)) ∙ ap (λ (n : ℕ). n + all_standing bs) (length-map q.standing (λ (e : Event). e.message))

standing_set : (bs : List Queues) (k : ℕ) (q : Queues) → k < length bs → all_standing (set bs k q) + length (get_or bs k no_queues).standing ≡ all_standing bs + length q.standing
standing_set [] k q h = absurd (omega arith)
standing_set (b ∷ bs) zero q h = omega (arith, stand_first q bs, stand_first b bs)
standing_set (b ∷ bs) (suc k) q h = omega (arith, standing_set bs k q (omega arith), stand_first b bs, stand_first b (set bs k q))

pub standing_at : (bs : List Queues) (k : ℕ) → length (get_or bs k no_queues).standing ≤ all_standing bs
standing_at [] k = omega arith
standing_at (b ∷ bs) zero = omega (arith, stand_first b bs)
standing_at (b ∷ bs) (suc k) = omega (arith, standing_at bs k, stand_first b bs)

issued_set : (n : ℕ) (bs : List Queues) (k j : ℕ) (q : Queues) → ((i : ℕ) → issued (get_or bs i no_queues) ≤ n) → issued q ≤ n → issued (get_or (set bs k q) j no_queues) ≤ n
issued_set n [] k j q h le = h j
issued_set n (b ∷ bs) zero zero q h le = le
issued_set n (b ∷ bs) zero (suc j) q h le = h (suc j)
issued_set n (b ∷ bs) (suc k) zero q h le = h 0
issued_set n (b ∷ bs) (suc k) (suc j) q h le = issued_set n bs k j q (λ i. h (suc i)) le

-- the same of the memory of one board
module _ (bs : List BoardQueues) (p : ℕ) (x : BoardQueues) where
  pub entry_standing : p < length bs → all_standing (map queues_of (set bs p x)) + length (get_or (map queues_of bs) p no_queues).standing ≡ all_standing (map queues_of bs) + length (queues_of x).standing
  entry_standing there = rw (map-set queues_of bs p x) (standing_set (map queues_of bs) p (queues_of x) (omega (arith, there, length-map bs queues_of)))

  pub entry_issued : (n : ℕ) → ((i : ℕ) → issued (get_or (map queues_of bs) i no_queues) ≤ n) → issued (queues_of x) ≤ n → (j : ℕ) → issued (get_or (map queues_of (set bs p x)) j no_queues) ≤ n
  entry_issued n h le j = rw (map-set queues_of bs p x) (issued_set n (map queues_of bs) p j (queues_of x) h le)

-- ---- a run: one event more

sends_push : (es : List Event) (e : Event) → length (sends_of (es ++ e ∷ [])) ≡ length (sends_of es) + length e.sends
sends_push [] e = length-append e.sends [] ∙ omega arith
sends_push (x ∷ es) e =
    length-append x.sends (sends_of (es ++ e ∷ []))
    ∙ omega (arith, sends_push es e, length-append x.sends (sends_of es))

pub issued_stood : (out : List Message) (q : Queues) (os : List Message) → issued (stood_on out q os) ≤ issued q + length out
issued_stood out q [] = omega arith
issued_stood out q (m ∷ rest) = let e : Event = record { message = m; sends = out } in omega (arith, sends_push q.standing e)

pub stood_one : (out : List Message) (q : Queues) (os : List Message) (m : Message) → first_message os ≡ Some m → length (stood_on out q os).standing ≡ length q.standing + 1
stood_one out q [] m e = let z : ◌≡◌ {A = ℕ} 0 1 = cc in absurd (omega arith)
stood_one out q (x ∷ rest) m e = let ev : Event = record { message = x; sends = out } in omega (arith, length-append q.standing (ev ∷ []))

-- ---- a committed line: one event less

-- the soonest front is that of its board
pub front_there : (t : Table) (f : Front) → Some f ≡ soonest 0 (boards_in t) → (f.board < length t.entries) × (front_of (board_in t f.board) ≡ Some f.message)
front_there t f e =
    let there = soonest_there 0 (boards_in t) f (sym e) in
    let z : f.board ≡ f.board - 0 = omega arith in
    (omega (arith, there.1, length-map t.entries queues_of), ap (λ (k : ℕ). front_of (board_in t k)) z ∙ there.2)

-- and so it is below the table's end
pub front_inside : (t : Table) (f : Front) → Some f ≡ soonest 0 (boards_in t) → f.board < length t.entries
front_inside t f e = (front_there t f e).0

some_stand : (es : List Event) (m : Message) → first_event es ≡ Some m → 1 ≤ length es
some_stand [] m e = let z : ◌≡◌ {A = ℕ} 0 1 = cc in absurd (omega arith)
some_stand (x ∷ es) m e = omega arith

pub shed_one_less : (q : Queues) (m : Message) → front_of q ≡ Some m → length (shed 1 q).standing + 1 ≡ length q.standing
shed_one_less q m e = omega (arith, some_stand q.standing m e, length-drop 1 q.standing)

pub shed_issued : (q : Queues) → issued (shed 1 q) ≡ issued q
shed_issued q = omega (arith, sends_count 1 q.standing)

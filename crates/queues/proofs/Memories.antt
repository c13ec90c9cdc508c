-- What the memory of a board's queues stands for.
use Rattle.std.proofs.Common.{◌≡◌, ℕ, zero, suc, ◌+◌, ◌≤◌, List, [], ◌∷◌, map, length, take, drop, sym, refl, ap, ◌∙◌, arith, length-drop, length-take}
use Rattle.std.proofs.lemmas.List.{length-map, length-take-le, take-take, drop-take}
use Rattle.rows.specs.Held.{held}
use Rattle.bus.specs.declared.Message.{Message}
use Rattle.queues.specs.declared.board.BoardQueues.{BoardQueues}
use Rattle.queues.specs.Sums.{sum}
use Rattle.model.specs.State.{Event, sends_of, standing_of, issued}
use Rattle.model.specs.Deliver.{room}
use Rattle.queues.specs.Entries.{events, queues_of, outputs_of}
use Rattle.queues.proofs.Events.{sends_of_events, outputs_length}

pub sum_take_le : (xs : List ℕ) (p : ℕ) → sum (take p xs) ≤ sum xs
sum_take_le [] zero = omega arith
sum_take_le [] (suc p) = omega arith
sum_take_le (x ∷ xs) zero = omega arith
sum_take_le (x ∷ xs) (suc p) = omega (arith, sum_take_le xs p)

pub events_take : (ms : List Message) (ns : List ℕ) (out : List Message) (p : ℕ) → take p (events ms ns out) ≡ events (take p ms) (take p ns) (take (sum (take p ns)) out)
events_take [] ns out zero = refl
events_take [] ns out (suc p) = refl
events_take (m ∷ ms) [] out zero = refl
events_take (m ∷ ms) [] out (suc p) = refl
events_take (m ∷ ms) (n ∷ ns) out zero = refl
events_take (m ∷ ms) (n ∷ ns) out (suc p) =
    let k = sum (take p ns) in
    let f : List Message → List Message → List Event = λ a b. record { message = m; sends = a } ∷ events (take p ms) (take p ns) b in
    let g : List Event → List Event = λ es. record { message = m; sends = take n out } ∷ es in
    ap g (events_take ms ns (drop n out) p)
    ∙ ap (λ a. f a (take k (drop n out))) (sym (take-take n (n + k) out (omega arith)))
    ∙ ap (λ b. f (take n (take (n + k) out)) b) (sym (drop-take n k out))

pub events_messages : (ms : List Message) (ns : List ℕ) (out : List Message) → length ms ≡ length ns → map (λ (e : Event). e.message) (events ms ns out) ≡ ms
events_messages [] ns out e = refl
events_messages (m ∷ ms) [] out e = absurd (omega arith)
events_messages (m ∷ ms) (n ∷ ns) out e = ap (λ (zs : List Message). m ∷ zs) (events_messages ms ns (drop n out) (omega arith))

module _ (q : BoardQueues) where
  abbrev pub stand : ℕ
  stand = length (held q.sends)

  pub even : length (take stand (held q.messages)) ≡ length (held q.sends)
  even = length-take-le stand (held q.messages) q.stands

  pub tally : sum (held q.sends) ≡ length (outputs_of q)
  tally = q.tallies ∙ sym (outputs_length q)

  pub standing_messages : standing_of (queues_of q) ≡ take stand (held q.messages)
  standing_messages = events_messages (take stand (held q.messages)) (held q.sends) (outputs_of q) even

  pub standing_length : length (queues_of q).standing ≡ stand
  standing_length = sym (length-map (queues_of q).standing (λ (e : Event). e.message)) ∙ ap length standing_messages ∙ even

  pub room_is : room (queues_of q) ≡ length (held q.messages) + length (held q.early)
  room_is = omega (arith, standing_length, length-drop stand (held q.messages), q.stands)

  -- what the first events sent
  pub sends_kept : (p : ℕ) → length (sends_of (take p (queues_of q).standing)) ≡ sum (take p (held q.sends))
  sends_kept p =
      let ms = take stand (held q.messages) in
      let ns = held q.sends in
      let k = sum (take p ns) in
      let l : length (take k (outputs_of q)) ≡ k = length-take-le k (outputs_of q) (omega (arith, sum_take_le ns p, tally)) in
      let ev : length (take p ms) ≡ length (take p ns) = omega (arith, length-take p ms, length-take p ns, even) in
      ap (λ es. length (sends_of es)) (events_take ms ns (outputs_of q) p)
      ∙ ap length (sends_of_events (take p ms) (take p ns) (take k (outputs_of q)) ev (sym l)) ∙ l

  pub sends_outputs : sends_of (queues_of q).standing ≡ outputs_of q
  sends_outputs = sends_of_events (take stand (held q.messages)) (held q.sends) (outputs_of q) even tally

  pub sends_all : length (sends_of (queues_of q).standing) ≡ length (held q.outputs)
  sends_all = ap length sends_outputs ∙ outputs_length q

  pub issued_is : issued (queues_of q) ≡ q.sent + length (held q.outputs)
  issued_is = ap (λ (n : ℕ). q.sent + n) sends_all

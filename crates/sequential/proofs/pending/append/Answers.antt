-- None, one and two messages behind the pending ones.
use Rattle.std.proofs.Common.{◌≡◌, ℕ, ◌+◌, ◌-◌, ◌<◌, ◌≤◌, List, [], ◌∷◌, ◌++◌, length, take, drop, set, sym, ap, ◌∙◌, append_assoc, arith}
use Rattle.std.proofs.lemmas.List.{append-nil, drop-drop, length-append, length-take-le}
use Rattle.rows.specs.Rows.{in_front}
use Rattle.rows.proofs.Memory.{in_front_own}
use Rattle.bus.specs.declared.Message.{Message}
use Rattle.bus.specs.Reactions.{listed}
use Rattle.racks.proofs.Fronts.{front_push}
use Rattle.sequential.proofs.pending.append.Goals as goal
use Rattle.sequential.proofs.pending.append.Goals.{in-Nothing, in-One, in-Two}

one : (ms : List Message) (n : ℕ) (a : Message) → n < length ms → set ms n a ≡ in_front (take n ms ++ a ∷ []) ms
one ms n a h = ap (λ (all : List Message). set all n a) (sym (in_front_own n ms)) ∙ front_push (take n ms) ms n a (length-take-le n ms (omega arith)) h

more : (ms xs : List Message) (n k : ℕ) → length xs ≡ k → n ≤ length ms → take n ms ++ (xs ++ drop k (drop n ms)) ≡ in_front (take n ms ++ xs) ms
more ms xs n k e h =
    let long : n + k ≡ length (take n ms ++ xs) = omega (arith, length-append (take n ms) xs, length-take-le n ms h) in
    ap (λ (rest : List Message). take n ms ++ (xs ++ rest)) (drop-drop k n ms ∙ ap (λ (j : ℕ). drop j ms) long) ∙ sym (append_assoc (take n ms) xs (drop (length (take n ms ++ xs)) ms))

pub returns-clause-after : goal.returns-clause-after
returns-clause-after c =
    let ms = c.args.pending.now in
    let n = c.args.held in
    let row : List Message → List Message = λ xs. in_front (take n ms ++ xs) ms in
    elim c.match-batch.branch [
      | in-Nothing w ↦ w.pending-is ∙ sym (ap (λ (xs : List Message). in_front xs ms) (append-nil (take n ms)) ∙ in_front_own n ms) ∙ ap (λ b. row (listed b)) (sym w.in-Nothing.is)
      | in-One w ↦ w.pending-is ∙ one ms n w.in-One.message (omega (arith, c.requires)) ∙ ap (λ b. row (listed b)) (sym w.in-One.is)
      | in-Two w ↦
          let two = w.in-Two.first ∷ w.in-Two.second ∷ [] in
          w.pending-is
          ∙ ap (λ (xs : List Message). take n ms ++ (xs ++ drop (n + 2 - n) (drop n ms))) w.copy_from_slice.ensures.after
          ∙ more ms two n (n + 2 - n) (omega arith) (omega (arith, c.requires))
          ∙ ap (λ b. row (listed b)) (sym w.in-Two.is)
    ]

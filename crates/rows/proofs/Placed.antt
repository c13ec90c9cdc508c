-- A record that is put into the part of a row behind a place. Assumes nothing.
use Rattle.std.proofs.Common.{◌≡◌, ℕ, ◌+◌, ◌-◌, ◌≤◌, min, Bool, cond, ltb, List, ◌++◌, length, take, drop, Ok, sym, ap, ◌∙◌, arith, length-take}
use borrow.Rule.Slice.PartMut.{put_mid}
use Rattle.std.proofs.lemmas.List.{take-take, take-append-drop, length-take-le}
use Rattle.std.proofs.lemmas.Slice.{between_is}
use Rattle.std.proofs.lemmas.Bool.{cond-true, lt-ltb}
use Rattle.rows.specs.Rows.{insert, put_answer, put_memory}
use Rattle.rows.proofs.Laws.{length_insert}
use Rattle.rows.proofs.Lent.{had_room, put_count, put_memory_is}
use Rattle.rows.proofs.Parts.{part_length, part_row, part_written, take_at_most, drop_at_most}

module _ {X : Type 0} (before : X → X → Bool) (M : List X) (count N from s v : ℕ) (x : X) (P : List X) (sized : length M ≡ N) (fits : count ≤ N) (cut : s ≡ min from count)
    (answer : Ok v ≡ put_answer (take (length M - s) (drop s M)) (count - s)) (put : P ≡ put_memory before (take (length M - s) (drop s M)) (count - s) x) where
  pub placed_from : take (s + v) (put_mid s (length M - s) M P) ≡ cond (ltb (length (take count M)) N) (take from (take count M) ++ insert before x (drop from (take count M))) (take count M)
  placed_from =
      let part = take (length M - s) (drop s M) in
      let row = take count M in
      let n = count - s in
      let within : s ≤ length M = omega arith in
      let places = part_length M s within in
      let room = had_room before part n (length M - s) x P v places answer put in
      let len = put_count before part n (length M - s) x P v places answer put in
      let after = put_memory_is before part n (length M - s) x P v places answer put in
      let long : length row ≡ count = length-take-le count M (omega arith) in
      let O = insert before x (take n part) in
      let one : v ≡ length O = omega (arith, len, length_insert before x (take n part), length-take n part, places) in
      let M' = put_mid s (length M - s) M P in
      let e = part_written M s within part P O v after one in
      let back : take n part ≡ drop from row = part_row M s within n ∙ between_is M s count ∙ drop_at_most row from count s long cut in
      let front : take s M ≡ take from row = sym (take-take s count M (omega arith)) ∙ take_at_most row from count s long cut in
      let z : s + v - s ≡ v = omega arith in
      let split : take (s + v) M' ≡ take s M' ++ take (s + v - s) (drop s M') =
      sym (take-append-drop s (take (s + v) M')) ∙ ap (λ zs. zs ++ drop s (take (s + v) M')) (take-take s (s + v) M' (omega arith))
      ∙ ap (λ zs. take s M' ++ zs) (sym (between_is M' s (s + v))) in
      split
      ∙ ap (λ zs. zs ++ take (s + v - s) (drop s M')) (e.0 ∙ front)
      ∙ ap (λ zs. take from row ++ zs) (e.1 ∙ ap (insert before x) back)
      ∙ sym (cond-true _ _ _ (lt-ltb (length row) N (omega (arith, long, room))))

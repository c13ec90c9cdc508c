-- A row that is changed behind a place: what is in front of the place stays.
use Rattle.std.proofs.Common.{◌≡◌, ℕ, ◌+◌, ◌-◌, ◌<◌, ◌≤◌, min, List, ◌++◌, length, take, drop, sym, ap, ◌∙◌, ⊎_elim, append_assoc, arith, length-drop, length-take}
use borrow.Rule.Slice.PartMut.{put_mid}
use Rattle.std.proofs.lemmas.List.{take_all, drop_all, take_at, drop_at, length-append, length-take-le}
use Rattle.std.proofs.lemmas.Bool.{cases_lt}
use Rattle.rows.specs.Rows.{in_front}

module _ {X : Type 0} (M : List X) (s : ℕ) (le : s ≤ length M) where
  pub part_length : length (take (length M - s) (drop s M)) ≡ length M - s
  part_length = simp (length-take, length-drop) (omega arith)

  pub part_row : (n : ℕ) → take n (take (length M - s) (drop s M)) ≡ take n (drop s M)
  part_row n = ap (take n) (take_all (length M - s) (drop s M) (omega (arith, length-drop s M)))

  pub part_size : (P : List X) → length P ≡ length M - s → length (put_mid s (length M - s) M P) ≡ length M
  part_size P l =
      let rest = drop (length M - s) (drop s M) in
      let d : length rest ≡ 0 = simp length-drop (omega arith) in
      length-append (take s M) (P ++ rest) ∙ omega (arith, l, d, length-append P rest, length-take-le s M le)

  -- a row O laid in front of the part
  pub part_written : (P P' O : List X) (n : ℕ) → P' ≡ in_front O P → n ≡ length O
      → (take s (put_mid s (length M - s) M P') ≡ take s M) × (take (s + n - s) (drop s (put_mid s (length M - s) M P')) ≡ O)
  part_written P P' O n e l =
      let rest = drop (length M - s) (drop s M) in
      let lA = length-take-le s M le in
      let z : s + n - s ≡ n = omega arith in (
        take_at (take s M) (P' ++ rest) s lA,
        ap (take (s + n - s)) (drop_at (take s M) (P' ++ rest) s lA) ∙ ap (λ k. take k (P' ++ rest)) z
            ∙ ap (λ zs. take n (zs ++ rest)) e ∙ ap (take n) (append_assoc O (drop (length O) P) rest)
            ∙ take_at O (drop (length O) P ++ rest) n (sym l),
      )

-- a place past the row's end counts as its end
module _ {X : Type 0} (row : List X) (from n at : ℕ) (l : length row ≡ n) (e : at ≡ min from n) where
  pub take_at_most : take at row ≡ take from row
  take_at_most =
      ⊎_elim
      (λ (h : from < n). ap (λ k. take k row) (omega arith))
      (λ (h : n ≤ from). take_all at row (omega arith) ∙ sym (take_all from row (omega arith)))
      (cases_lt from n)

  pub drop_at_most : drop at row ≡ drop from row
  drop_at_most =
      ⊎_elim
      (λ (h : from < n). ap (λ k. drop k row) (omega arith))
      (λ (h : n ≤ from). drop_all at row (omega arith) ∙ sym (drop_all from row (omega arith)))
      (cases_lt from n)

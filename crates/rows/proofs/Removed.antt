-- What is left of a row of which records are dropped. Assumes nothing.
use Rattle.std.proofs.Common.{◌≡◌, ℕ, zero, suc, ◌+◌, ◌<◌, Bool, true, false, cond, not, List, [], ◌∷◌, ◌++◌, length, get_or, take, drop, refl, ap, ◌∙◌, arith}
use Rattle.std.proofs.lemmas.Bool.{and_parts, and_from}
use Rattle.rows.specs.Order.{same}
use Rattle.rows.specs.Rows.{insert, place_of, count_of, none_before, sorted, without}
use Rattle.rows.specs.Theorems.{CuttingKeepsOrder, SheddingKeepsOrder, RemovalKeepsOrder}
use Rattle.rows.proofs.Memory.{without_past}
use Rattle.rows.proofs.Sorted.{count_cons}

pub without_cons : {X : Type 0} (k : ℕ) (y : X) (ys : List X) → without (suc k) (y ∷ ys) ≡ y ∷ without k ys
without_cons k y ys = ap (λ n. (y ∷ take k ys) ++ drop n (y ∷ ys)) (next k)
  where
    next : (k : ℕ) → suc k + 1 ≡ suc (k + 1)
    next k = omega arith

without_nil : {X : Type 0} (k : ℕ) → without {X = X} k [] ≡ []
without_nil k = without_past k [] (omega arith)

module _ {X : Type 0} (before : X → X → Bool) where
  -- ---- the front and the back of a sorted row

  none_before_take : (x : X) (k : ℕ) (row : List X) → none_before before x row ≡ true → none_before before x (take k row) ≡ true
  none_before_take x zero row h = refl
  none_before_take x (suc k) [] h = refl
  none_before_take x (suc k) (y ∷ ys) h = let p = and_parts (not (before y x)) (none_before before x ys) h in and_from _ _ p.0 (none_before_take x k ys p.1)

  pub sorted_take : CuttingKeepsOrder before
  sorted_take zero row h = refl
  sorted_take (suc k) [] h = refl
  sorted_take (suc k) (y ∷ ys) h = let p = and_parts (none_before before y ys) (sorted before ys) h in and_from _ _ (none_before_take y k ys p.0) (sorted_take k ys p.1)

  pub sorted_drop : SheddingKeepsOrder before
  sorted_drop zero row h = h
  sorted_drop (suc k) [] h = refl
  sorted_drop (suc k) (y ∷ ys) h = sorted_drop k ys (and_parts (none_before before y ys) (sorted before ys) h).1

  none_before_without : (x : X) (k : ℕ) (row : List X) → none_before before x row ≡ true → none_before before x (without k row) ≡ true
  none_before_without x zero [] h = refl
  none_before_without x (suc k) [] h = ap (none_before before x) (without_nil (suc k))
  none_before_without x zero (y ∷ ys) h = (and_parts (not (before y x)) (none_before before x ys) h).1
  none_before_without x (suc k) (y ∷ ys) h =
      let p = and_parts (not (before y x)) (none_before before x ys) h in
      ap (none_before before x) (without_cons k y ys) ∙ and_from _ _ p.0 (none_before_without x k ys p.1)

  pub sorted_without : RemovalKeepsOrder before
  sorted_without zero [] h = refl
  sorted_without (suc k) [] h = ap (sorted before) (without_nil (suc k))
  sorted_without zero (y ∷ ys) h = (and_parts (none_before before y ys) (sorted before ys) h).1
  sorted_without (suc k) (y ∷ ys) h =
      let p = and_parts (none_before before y ys) (sorted before ys) h in
      ap (sorted before) (without_cons k y ys) ∙ and_from _ _ (none_before_without y k ys p.0) (sorted_without k ys p.1)

  -- ---- removing takes one of the record at the place, and of no other

  pub count_without : (x : X) (k : ℕ) (row : List X) (d : X) → k < length row → count_of before x row ≡ cond (same before x (get_or row k d)) 1 0 + count_of before x (without k row)
  count_without x zero [] d h = absurd (omega arith)
  count_without x (suc k) [] d h = absurd (omega arith)
  count_without x zero (y ∷ ys) d h = count_cons before x y ys
  count_without x (suc k) (y ∷ ys) d h =
      let rest = count_without x k ys d (omega arith) in
      let p = count_cons before x y ys in
      let q = count_cons before x y (without k ys) in
      let e = ap (count_of before x) (without_cons k y ys) in
      omega arith

  -- what was inserted is taken out again
  pub without_insert : (x : X) (row : List X) → without (place_of before x row) (insert before x row) ≡ row
  without_insert x [] = refl
  without_insert x (y ∷ ys) =
      elim (before x y) as (λ b. without (cond b 0 (suc (place_of before x ys))) (cond b (x ∷ y ∷ ys) (y ∷ insert before x ys)) ≡ y ∷ ys) [
        | true ↦ refl
        | false ↦ without_cons (place_of before x ys) y (insert before x ys) ∙ ap (λ zs. y ∷ zs) (without_insert x ys)
      ]

-- What holds of rows. Assumes nothing.
use Rattle.std.proofs.Common.{◌≡◌, ℕ, zero, suc, ◌+◌, ◌≤◌, Bool, true, false, cond, List, [], ◌∷◌, ◌++◌, length, take, drop, refl, ap, arith}
use Rattle.rows.specs.Rows.{insert, place_of}

-- a row at its own length
pub take_own : {X : Type 0} (n : ℕ) (memory : List X) → take (length (take n memory)) memory ≡ take n memory
take_own zero memory = refl
take_own (suc n) [] = refl
take_own (suc n) (x ∷ xs) = ap (λ ys. x ∷ ys) (take_own n xs)

module _ {X : Type 0} (before : X → X → Bool) where
  -- inserting is placing before the first greater one
  pub insert_at : (x : X) (row : List X) → insert before x row ≡ take (place_of before x row) row ++ x ∷ drop (place_of before x row) row
  insert_at x [] = refl
  insert_at x (y ∷ ys) =
      elim (before x y) as (λ b. cond b (x ∷ y ∷ ys) (y ∷ insert before x ys) ≡ take (cond b 0 (suc (place_of before x ys))) (y ∷ ys) ++ x ∷ drop (cond b 0 (suc (place_of before x ys))) (y ∷ ys)) [
        | true ↦ refl
        | false ↦ ap (λ zs. y ∷ zs) (insert_at x ys)
      ]

  pub place_within : (x : X) (row : List X) → place_of before x row ≤ length row
  place_within x [] = omega arith
  place_within x (y ∷ ys) =
      let rest : place_of before x ys ≤ length ys = place_within x ys in
      elim (before x y) as (λ b. cond b 0 (suc (place_of before x ys)) ≤ suc (length ys)) [ true ↦ omega arith | false ↦ omega arith ]

  pub length_insert : (x : X) (row : List X) → length (insert before x row) ≡ length row + 1
  length_insert x [] = refl
  length_insert x (y ∷ ys) =
      let rest : length (insert before x ys) ≡ length ys + 1 = length_insert x ys in
      elim (before x y) as (λ b. length (cond b (x ∷ y ∷ ys) (y ∷ insert before x ys)) ≡ suc (length ys) + 1) [ true ↦ omega arith | false ↦ omega arith ]

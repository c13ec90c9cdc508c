-- What the answer of a search for an equal record tells. Assumes nothing.
use Rattle.std.proofs.Common.{◌≡◌, ℕ, suc, ◌+◌, ◌<◌, ◌≤◌, Bool, true, false, cond, not, List, [], ◌∷◌, length, get_or, Some, None, Option, sym, refl, ap, ◌∙◌, subst, inl, inr, ⊎_elim, arith}
use Rattle.std.proofs.lemmas.Bool.{and_parts, and_left, not-true, not_from_true, cases_Bool, cases_lt, cond-true, cond-false}
use Rattle.rows.specs.Order.{Total, same}
use Rattle.rows.specs.Rows.{first_at, first_of, last_of, later_or, count_of, none_before, sorted, without, without_one}
use Rattle.rows.specs.Theorems.{FoundTold, RemovalTakesOneEqual, LastEqualIsWherePlaced}
use Rattle.rows.proofs.Keys.{into_right}
use Rattle.rows.proofs.Sorted.{same_self, same_is}
use Rattle.rows.proofs.Removed.{count_without, without_cons}
use Rattle.rows.proofs.Steps.{within_some, within_none}

module _ {X : Type 0} (before : X → X → Bool) (x : X) where
  -- ---- the first one

  first_there : (row : List X) (d : X) → first_at (same before x) row < length row → same before x (get_or row (first_at (same before x) row) d) ≡ true
  first_there [] d lt = absurd (omega arith)
  first_there (y ∷ ys) d lt = elim (cases_Bool (same before x y)) [
    | inl h ↦ rw h h
    | inr h ↦ rw h (first_there ys d (let more : suc (first_at (same before x) ys) < suc (length ys) = rw h at lt in omega arith))
  ]

  first_past : (row : List X) → length row ≤ first_at (same before x) row → count_of before x row ≡ 0
  first_past [] le = refl
  first_past (y ∷ ys) le = elim (cases_Bool (same before x y)) [
    | inl h ↦ absurd (let none : suc (length ys) ≤ 0 = rw h at le in omega arith)
    | inr h ↦ rw h (first_past ys (let more : suc (length ys) ≤ suc (first_at (same before x) ys) = rw h at le in omega arith))
  ]

  pub first_told : (row : List X) → FoundTold before x row (first_of before x row)
  first_told row =
      let k = first_at (same before x) row in
      ⊎_elim
      (λ (lt : k < length row). subst (FoundTold before x row) (sym (within_some row k lt)) (lt, λ d. first_there row d lt))
      (λ (le : length row ≤ k). subst (FoundTold before x row) (sym (within_none row k le)) (first_past row le))
      (cases_lt k (length row))

  -- ---- the last one

  told_later : (y : X) (ys : List X) (f : Option ℕ) → FoundTold before x ys f → FoundTold before x (y ∷ ys) (later_or f (same before x y))
  told_later y ys (Some k) t = (omega (arith, t.0), t.1)
  told_later y ys None t = elim (cases_Bool (same before x y)) [
    | inl h ↦ rw h (omega arith, λ d. h)
    | inr h ↦ rw h (cond-false (same before x y) (suc (count_of before x ys)) (count_of before x ys) h ∙ t)
  ]

  pub last_told : (row : List X) → FoundTold before x row (last_of before x row)
  last_told [] = refl
  last_told (y ∷ ys) = told_later y ys (last_of before x ys) (last_told ys)

  -- ---- to remove at the first one's place is to remove one equal

  first_is : (row : List X) (k : ℕ) → first_of before x row ≡ Some k → first_at (same before x) row ≡ k
  first_is row k h =
      let p = first_at (same before x) row in
      ⊎_elim
      (λ (lt : p < length row). let e : Some p ≡ Some k = sym (within_some row p lt) ∙ h in let inner : p ≡ k = cc in inner)
      (λ (le : length row ≤ p). let e : None ≡ Some k = sym (within_none row p le) ∙ h in let z : ◌≡◌ {A = ℕ} 0 1 = cc in absurd (omega arith))
      (cases_lt p (length row))

  without_first_at : (row : List X) → without (first_at (same before x) row) row ≡ without_one before x row
  without_first_at [] = refl
  without_first_at (y ∷ ys) = elim (cases_Bool (same before x y)) [
    | inl h ↦ rw h
    | inr h ↦ rw h (without_cons (first_at (same before x) ys) y ys ∙ ap (λ zs. y ∷ zs) (without_first_at ys))
  ]

  pub without_first : (row : List X) (k : ℕ) → first_of before x row ≡ Some k → without k row ≡ without_one before x row
  without_first row k h = ap (λ n. without n row) (sym (first_is row k h)) ∙ without_first_at row

module _ {X : Type 0} {before : X → X → Bool} (total : Total before) where
  -- removing the record that was found takes one of it, and of no other
  pub count_found : RemovalTakesOneEqual before
  count_found x row k t y =
      count_without before y k row x t.0
      ∙ ap (λ w. cond (same before y w) 1 0 + count_of before y (without k row)) (sym (same_is total x (get_or row k x) (t.1 x)))

  last_past : (x y : X) (row : List X) → before x y ≡ true → none_before before y row ≡ true → last_of before x row ≡ None
  last_past x y [] h k = refl
  last_past x y (z ∷ zs) h k =
      let p = and_parts (not (before z y)) (none_before before y zs) k in
      let less = into_right total x y z h (not-true _ p.0) in
      let other : same before x z ≡ false = and_left _ _ (not_from_true _ less) in
      ap (λ f. later_or f (same before x z)) (last_past x y zs h p.1) ∙ cond-false _ _ _ other

  -- in a sorted row the last equal of an inserted record stands where it was placed
  pub last_insert : LastEqualIsWherePlaced before
  last_insert x [] h = cond-true _ _ _ (same_self total x)
  last_insert x (y ∷ ys) h =
      let p = and_parts (none_before before y ys) (sorted before ys) h in
      ⊎_elim
      (λ (t : before x y ≡ true).
      let more : same before x y ≡ false = and_left _ _ (not_from_true _ t) in
      let none : last_of before x (y ∷ ys) ≡ None = ap (λ f. later_or f (same before x y)) (last_past x y ys t p.0) ∙ cond-false (same before x y) (Some 0) None more in
      rw t (ap (λ f. later_or f (same before x x)) none ∙ cond-true _ _ _ (same_self total x)))
      (λ (n : before x y ≡ false). rw n (ap (λ f. later_or f (same before x y)) (last_insert x ys p.1)))
      (cases_Bool (before x y))

-- The least record of a list, and lists with one record less. Assumes nothing.
use Rattle.std.proofs.Common.{◌≡◌, suc, ◌+◌, ◌≤◌, Bool, true, false, not, List, [], ◌∷◌, ◌++◌, length, Some, None, Option, refl, ap, subst, inl, inr, arith}
use Rattle.std.specs.List.{All}
use Rattle.std.proofs.lemmas.Bool.{cases_Bool, both_ways, and_parts, and_from, not-true, not_from_false}
use Rattle.std.proofs.lemmas.List.Elements.{All-nil, All-cons, All-head, All-tail}
use Rattle.rows.specs.Order.{Total, same}
use Rattle.rows.specs.Rows.{none_before, sorted, count_of, nearer, least, without_one}
use Rattle.rows.specs.Theorems.{Least, LeastTold}
use Rattle.rows.proofs.Minimum.{least_told}
use Rattle.rows.proofs.Keys.{into_left}

module _ {X : Type 0} where
  pub all_and : (P Q : X → Type 0) (xs : List X) → All P xs → All Q xs → All (λ x. P x × Q x) xs
  all_and P Q xs p q = λ k d within. (p k d within, q k d within)

module _ {X : Type 0} (before : X → X → Bool) where
  -- what holds of each record of a list holds of its least, and of each one left
  abbrev pub AtLeast : (X → Type 0) → Option X → Type 0
  AtLeast P None = Unit {0}
  AtLeast P (Some x) = P x

  nearer_keeps : (P : X → Type 0) (x : X) (o : Option X) → P x → AtLeast P o → AtLeast P (nearer before x o)
  nearer_keeps P x None p q = p
  nearer_keeps P x (Some y) p q = elim (cases_Bool (before y x)) [ inl h ↦ rw h q | inr h ↦ rw h p ]

  pub least_keeps : (P : X → Type 0) (xs : List X) → All P xs → AtLeast P (least before xs)
  least_keeps P [] a = tt
  least_keeps P (x ∷ xs) a = nearer_keeps P x (least before xs) (All-head P x xs a) (least_keeps P xs (All-tail P x xs a))

  pub all_without : (P : X → Type 0) (x : X) (xs : List X) → All P xs → All P (without_one before x xs)
  all_without P x [] a = a
  all_without P x (y ∷ ys) a =
      let rest = All-tail P y ys a in
      elim (cases_Bool (same before x y)) [ inl h ↦ rw h rest | inr h ↦ rw h (All-cons P y (without_one before x ys) (All-head P y ys a) (all_without P x ys rest)) ]

  -- one more at the end of a row that it is not before
  none_before_push : (y x : X) (row : List X) → before x y ≡ false → none_before before y row ≡ true → none_before before y (row ++ x ∷ []) ≡ true
  none_before_push y x [] h k = and_from _ _ (not_from_false _ h) refl
  none_before_push y x (z ∷ zs) h k = let p = and_parts (not (before z y)) (none_before before y zs) k in and_from _ _ p.0 (none_before_push y x zs h p.1)

  pub sorted_push : (x : X) (row : List X) → All (λ y. before x y ≡ false) row → sorted before row ≡ true → sorted before (row ++ x ∷ []) ≡ true
  sorted_push x [] a s = refl
  sorted_push x (y ∷ ys) a s =
      let p = and_parts (none_before before y ys) (sorted before ys) s in
      let P : X → Type 0 = λ z. before x z ≡ false in
      and_from _ _ (none_before_push y x ys (All-head P y ys a) p.0) (sorted_push x ys (All-tail P y ys a) p.1)

module _ {X : Type 0} {before : X → X → Bool} (total : Total before) where
  -- x ≤ y, y ≤ z
  pub not_before_not : (x y z : X) → before y x ≡ false → before z y ≡ false → before z x ≡ false
  not_before_not x y z h k = elim (cases_Bool (before z x)) [
    | inl t ↦ absurd (both_ways (before y x) h (into_left total y z x k t))
    | inr n ↦ n
  ]

  -- nothing of a list comes before its least
  none_first : (x : X) (xs : List X) → none_before before x xs ≡ true → All (λ y. before y x ≡ false) xs
  none_first x [] h = All-nil (λ y. before y x ≡ false)
  none_first x (y ∷ ys) h =
      let p = and_parts (not (before y x)) (none_before before x ys) h in
      All-cons (λ z. before z x ≡ false) y ys (not-true _ p.0) (none_first x ys p.1)

  pub least_is : (xs : List X) (x : X) → least before xs ≡ Some x → Least before x xs
  least_is xs x e = subst (λ (o : Option X). LeastTold before o xs) e (least_told total xs)

  pub least_first : (xs : List X) (x : X) → least before xs ≡ Some x → All (λ y. before y x ≡ false) xs
  least_first xs x e = none_first x xs (least_is xs x e).first

module _ {X : Type 0} (before : X → X → Bool) where
  -- one record less, and none where the list has no such record
  pub length_without_one : (x : X) (xs : List X) → 1 ≤ count_of before x xs → length (without_one before x xs) + 1 ≡ length xs
  length_without_one x [] h = absurd (omega arith)
  length_without_one x (y ∷ ys) h = elim (cases_Bool (same before x y)) [
    | inl e ↦ rw e (omega arith)
    | inr e ↦ rw e (let rest = length_without_one x ys (rw e at h) in omega arith)
  ]

  pub without_none : (x : X) (xs : List X) → count_of before x xs ≡ 0 → without_one before x xs ≡ xs
  without_none x [] h = refl
  without_none x (y ∷ ys) h = elim (cases_Bool (same before x y)) [
    | inl e ↦ absurd (let one : suc (count_of before x ys) ≡ 0 = rw e at h in omega arith)
    | inr e ↦ rw e (ap (λ zs. y ∷ zs) (without_none x ys (rw e at h)))
  ]

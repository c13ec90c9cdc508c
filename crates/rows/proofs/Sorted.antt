-- What a total order gives of rows. Assumes nothing.
use Rattle.std.proofs.Common.{◌≡◌, suc, ◌+◌, Bool, true, false, cond, not, List, [], ◌∷◌, ◌++◌, refl, ap, ◌∙◌, ⊎_elim, arith}
use Rattle.std.proofs.lemmas.Bool.{and_parts, and_from, not-true, not_from_false, both_ways, cases_Bool, cond-true, cond-false}
use Rattle.rows.specs.Order.{Total, same}
use Rattle.rows.specs.Rows.{insert, count_of, none_before, sorted}
use Rattle.rows.specs.Theorems.{InsertionKeepsOrder, InsertionAddsOneEqual}
use Rattle.rows.proofs.Keys.{into_right}

module _ {X : Type 0} {before : X → X → Bool} (total : Total before) where
  -- two records do not come before one another
  pub asymmetric : (x y : X) → before x y ≡ true → before y x ≡ false
  asymmetric x y h =
      ⊎_elim
      (λ k. absurd (both_ways (before x x) (total.irreflexive x) (total.transitive x y x h k)))
      (λ k. k)
      (cases_Bool (before y x))

  -- z is not before y, which is not before x: nor is z before x
  pub not_before : (x y z : X) → before y x ≡ false → before z y ≡ false → before z x ≡ false
  not_before x y z h k =
      ⊎_elim
      (λ j. absurd (both_ways (before z y) k (into_right total z x y j h)))
      (λ j. j)
      (cases_Bool (before z x))

  -- what no record of the row comes before may be replaced by what is not greater
  pub none_before_upto : (x y : X) (row : List X) → before y x ≡ false → none_before before y row ≡ true → none_before before x row ≡ true
  none_before_upto x y [] h k = refl
  none_before_upto x y (z ∷ zs) h k =
      let p = and_parts (not (before z y)) (none_before before y zs) k in
      and_from _ _ (not_from_false _ (not_before x y z h (not-true _ p.0))) (none_before_upto x y zs h p.1)

  none_before_insert : (x y : X) (row : List X) → before x y ≡ false → none_before before y row ≡ true → none_before before y (insert before x row) ≡ true
  none_before_insert x y [] h k = and_from _ _ (not_from_false _ h) refl
  none_before_insert x y (z ∷ zs) h k =
      let p = and_parts (not (before z y)) (none_before before y zs) k in
      elim (before x z) as (λ b. none_before before y (cond b (x ∷ z ∷ zs) (z ∷ insert before x zs)) ≡ true) [
        | true ↦ and_from _ _ (not_from_false _ h) k
        | false ↦ and_from _ _ p.0 (none_before_insert x y zs h p.1)
      ]

  -- a sorted row stays sorted
  pub insert_sorted : InsertionKeepsOrder before
  insert_sorted x [] s = refl
  insert_sorted x (y ∷ ys) s =
      let p = and_parts (none_before before y ys) (sorted before ys) s in
      ⊎_elim
      (λ h. ap (sorted before) (cond-true (before x y) (x ∷ y ∷ ys) (y ∷ insert before x ys) h) ∙ and_from _ _ (and_from _ _ (not_from_false _ (asymmetric x y h)) (none_before_upto x y ys (asymmetric x y h) p.0)) s)
      (λ h. ap (sorted before) (cond-false (before x y) (x ∷ y ∷ ys) (y ∷ insert before x ys) h) ∙ and_from _ _ (none_before_insert x y ys h p.0) (insert_sorted x ys p.1))
      (cases_Bool (before x y))

  -- a record is the same as itself alone
  pub same_self : (x : X) → same before x x ≡ true
  same_self x = and_from _ _ (not_from_false _ (total.irreflexive x)) (not_from_false _ (total.irreflexive x))

  pub same_is : (x y : X) → same before x y ≡ true → x ≡ y
  same_is x y h = let p = and_parts (not (before x y)) (not (before y x)) h in total.decided x y (not-true _ p.0) (not-true _ p.1)

-- ---- how often a record is in a row

module _ {X : Type 0} (before : X → X → Bool) where
  pub count_cons : (x y : X) (row : List X) → count_of before x (y ∷ row) ≡ cond (same before x y) 1 0 + count_of before x row
  count_cons x y row = elim (same before x y) as (λ b. cond b (suc (count_of before x row)) (count_of before x row) ≡ cond b 1 0 + count_of before x row) [ true ↦ omega arith | false ↦ omega arith ]

  pub count_append : (x : X) (ys zs : List X) → count_of before x (ys ++ zs) ≡ count_of before x ys + count_of before x zs
  count_append x [] zs = omega arith
  count_append x (y ∷ ys) zs = let rest = count_append x ys zs in let p = count_cons x y (ys ++ zs) in let q = count_cons x y ys in omega arith

  -- inserting y adds one of y, and of no other
  pub count_insert : InsertionAddsOneEqual before
  count_insert x y [] = count_cons x y []
  count_insert x y (z ∷ zs) =
      let rest = count_insert x y zs in
      let p = count_cons x z (insert before y zs) in
      let q = count_cons x z zs in
      elim (before y z) as (λ b. count_of before x (cond b (y ∷ z ∷ zs) (z ∷ insert before y zs)) ≡ cond (same before x y) 1 0 + count_of before x (z ∷ zs)) [
        | true ↦ count_cons x y (z ∷ zs)
        | false ↦ omega arith
      ]

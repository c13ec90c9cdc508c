-- The least record of a row. Assumes nothing.
use Rattle.std.proofs.Common.{◌≡◌, ◌≤◌, Bool, true, false, not, List, [], ◌∷◌, Some, None, Option, refl, ap, ◌∙◌, inl, inr, arith}
use Rattle.std.proofs.lemmas.Bool.{and_parts, and_from, not-true, not_from_false, cases_Bool}
use Rattle.rows.specs.Order.{Total, same}
use Rattle.rows.specs.Rows.{count_of, none_before, nearer, least}
use Rattle.rows.specs.Theorems.{Least, LeastTold, LeastComesFirst}
use Rattle.rows.proofs.Sorted.{asymmetric, none_before_upto, same_self, same_is, count_cons}

module _ {X : Type 0} {before : X → X → Bool} (total : Total before) where
  -- a record in the row does not come before one that none comes before
  pub none_before_of : (x y : X) (row : List X) → none_before before x row ≡ true → 1 ≤ count_of before y row → before y x ≡ false
  none_before_of x y [] h k = absurd (omega arith)
  none_before_of x y (z ∷ zs) h k =
      let p = and_parts (not (before z x)) (none_before before x zs) h in
      elim (cases_Bool (same before y z)) [
        | inl e ↦ ap (λ w. before w x) (same_is total y z e) ∙ not-true _ p.0
        | inr e ↦ none_before_of x y zs p.1 (rw e at k)
      ]

  -- the first record of a row is one of it
  own : (x : X) (xs : List X) → 1 ≤ count_of before x (x ∷ xs)
  own x xs = rw (same_self total x) (omega arith)

  told_cons : (x : X) (xs : List X) (o : Option X) → LeastTold before o xs → LeastTold before (nearer before x o) (x ∷ xs)
  told_cons x xs None e = record {
    stands = own x xs;
    first = and_from _ _ (not_from_false _ (total.irreflexive x)) (ap (none_before before x) e);
  }
  told_cons x xs (Some y) l = elim (cases_Bool (before y x)) [
    | inl h ↦ rw h (record {
      stands = omega (arith, count_cons before y x xs, l.stands);
      first = and_from _ _ (not_from_false _ (asymmetric total y x h)) l.first;
    })
    | inr h ↦ rw h (record {
      stands = own x xs;
      first = and_from _ _ (not_from_false _ (total.irreflexive x)) (none_before_upto total x y xs h l.first);
    })
  ]

  -- what `least` answers is the least; and none only of the empty row
  pub least_told : LeastComesFirst before
  least_told [] = refl
  least_told (x ∷ xs) = told_cons x xs (least before xs) (least_told xs)

  -- a row has one least record
  pub least_same : (x y : X) (row : List X) → Least before x row → Least before y row → x ≡ y
  least_same x y row l k = total.decided x y (none_before_of y x row k.first l.stands) (none_before_of x y row l.first k.stands)

  -- the least is what `least` answers
  pub is_least : (x : X) (row : List X) → Least before x row → least before row ≡ Some x
  is_least x row l = go (least before row) (least_told row)
    where
      go : (o : Option X) → LeastTold before o row → o ≡ Some x
      go None e = absurd (omega (arith, l.stands, ap (count_of before x) e))
      go (Some y) k = ap Some (least_same y x row k l)

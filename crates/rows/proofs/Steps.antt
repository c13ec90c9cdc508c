-- What a search over a row tells place by place, and the place that it answers. Assumes nothing.
use Rattle.std.proofs.Common.{◌≡◌, ℕ, zero, suc, ◌<◌, ◌≤◌, Bool, true, false, cond, List, [], ◌∷◌, length, get_or, Some, None, Option, sym, refl, ap, ◌∙◌, arith}
use Rattle.std.specs.Option.{MatchOption, unwrap_or}
use Rattle.std.specs.List.{position_or_len}
use Rattle.std.proofs.lemmas.List.Recursion.{is_position_or_len}
use Rattle.std.proofs.lemmas.List.Sums.{position_or_len_is}
use Rattle.std.proofs.lemmas.Bool.{cond-true, cond-false, lt-ltb, le-ltb}
use Rattle.rows.specs.Order.{same}
use Rattle.rows.specs.Rows.{first_at, within, last_of, later_or}

-- a place that the row has, and one that it has not
pub within_some : {X : Type 0} (row : List X) (k : ℕ) → k < length row → within row k ≡ Some k
within_some row k lt = cond-true _ _ _ (lt-ltb k (length row) lt)

pub within_none : {X : Type 0} (row : List X) (k : ℕ) → length row ≤ k → within row k ≡ None
within_none row k le = cond-false _ _ _ (le-ltb k (length row) le)

-- no record passes, or the one at the place does, and none before it
abbrev pub FirstPasses : {X : Type 0} → (X → Bool) → List X → Option ℕ → Type 0
FirstPasses {X} test row r =
    MatchOption r
    ((k : ℕ) (d : X) → k < length row → test (get_or row k d) ≡ false)
    (λ i. (i < length row) × ((d : X) → test (get_or row i d) ≡ true) × ((k : ℕ) (d : X) → k < i → test (get_or row k d) ≡ false))

-- no record passes, or the one at the place does, and none behind it
abbrev pub LastPasses : {X : Type 0} → (X → Bool) → List X → Option ℕ → Type 0
LastPasses {X} test row r =
    MatchOption r
    ((k : ℕ) (d : X) → k < length row → test (get_or row k d) ≡ false)
    (λ i. (i < length row) × ((d : X) → test (get_or row i d) ≡ true) × ((k : ℕ) (d : X) → i < k → k < length row → test (get_or row k d) ≡ false))

-- the place, or the row's end, is that of the first record that passes
pub first_or_end : {X : Type 0} (test : X → Bool) (row : List X) (d : X) (r : Option ℕ) → FirstPasses test row r → unwrap_or r (length row) ≡ first_at test row
first_or_end test row d r h =
    sym (counted r h) ∙ sym (is_position_or_len (first_at test) test refl (λ x xs. ap (λ n. cond (test x) 0 n) (omega arith)) row)
  where
    counted : (r : Option ℕ) → FirstPasses test row r → position_or_len test row ≡ unwrap_or r (length row)
    counted None h = position_or_len_is test row (length row) d (omega arith) (λ k lt. h k d lt) (λ lt. absurd (omega arith))
    counted (Some i) h = position_or_len_is test row i d (omega (arith, h.0)) (λ k lt. h.2 k d lt) (λ lt. h.1 d)

pub first_is : {X : Type 0} (test : X → Bool) (row : List X) (d : X) (r : Option ℕ) → FirstPasses test row r → r ≡ within row (first_at test row)
first_is test row d None h = let e = first_or_end test row d None h in sym (within_none row (first_at test row) (omega (arith, e)))
first_is test row d (Some i) h =
    let e : i ≡ first_at test row = first_or_end test row d (Some i) h in
    ap Some e ∙ sym (within_some row (first_at test row) (omega (arith, h.0, e)))

-- the place is that of the last record that is x
pub last_is : {X : Type 0} (before : X → X → Bool) (x : X) (row : List X) (r : Option ℕ) → LastPasses (same before x) row r → r ≡ last_of before x row
last_is before x [] None h = refl
last_is before x [] (Some i) h = absurd (omega (arith, h.0))
last_is before x (y ∷ ys) None h =
    sym (cond-false _ _ _ (h 0 x (omega arith)))
    ∙ ap (λ f. later_or f (same before x y)) (last_is before x ys None (λ k d lt. h (suc k) d (omega arith)))
last_is before x (y ∷ ys) (Some zero) h =
    sym (cond-true _ _ _ (h.1 x))
    ∙ ap (λ f. later_or f (same before x y)) (last_is before x ys None (λ k d lt. h.2 (suc k) d (omega arith) (omega arith)))
last_is before x (y ∷ ys) (Some (suc i)) h =
    ap (λ f. later_or f (same before x y)) (last_is before x ys (Some i) (omega (arith, h.0), h.1, λ k d lt le. h.2 (suc k) d (omega arith) (omega arith)))

-- What rows keep: the statements that contracts name.
use Rattle.std.specs.Prelude.{◌≡◌, ℕ, ◌+◌, ◌<◌, ◌≤◌, Bool, true, cond, List, [], length, take, drop, Some, None, Option, slice_index_or}
use Rattle.rows.specs.Order.{same}
use Rattle.rows.specs.Rows.{insert, place_of, first_of, last_of, without, without_one, count_of, none_before, sorted, least}

abbrev pub InsertionKeepsOrder : {X : Type 0} → (X → X → Bool) → Type 0
InsertionKeepsOrder {X} before = (x : X) (row : List X) → sorted before row ≡ true → sorted before (insert before x row) ≡ true

abbrev pub InsertionAddsOneEqual : {X : Type 0} → (X → X → Bool) → Type 0
InsertionAddsOneEqual {X} before = (x y : X) (row : List X) → count_of before x (insert before y row) ≡ cond (same before x y) 1 0 + count_of before x row

abbrev pub LastEqualIsWherePlaced : {X : Type 0} → (X → X → Bool) → Type 0
LastEqualIsWherePlaced {X} before = (x : X) (row : List X) → sorted before row ≡ true → last_of before x (insert before x row) ≡ Some (place_of before x row)

-- what an answer of a search for x says: no record of the row is x, or the record at the place is
abbrev pub FoundTold : {X : Type 0} → (X → X → Bool) → X → List X → Option ℕ → Type 0
FoundTold before x row None = count_of before x row ≡ 0
FoundTold {X} before x row (Some place) = (place < length row) × ((d : X) → same before x (slice_index_or row place d) ≡ true)

abbrev pub FirstFoundIsEqual : {X : Type 0} → (X → X → Bool) → Type 0
FirstFoundIsEqual {X} before = (x : X) (row : List X) → FoundTold before x row (first_of before x row)

abbrev pub LastFoundIsEqual : {X : Type 0} → (X → X → Bool) → Type 0
LastFoundIsEqual {X} before = (x : X) (row : List X) → FoundTold before x row (last_of before x row)

abbrev pub RemovalTakesOneEqual : {X : Type 0} → (X → X → Bool) → Type 0
RemovalTakesOneEqual {X} before =
    (x : X) (row : List X) (place : ℕ) → FoundTold before x row (Some place) → (y : X) → count_of before y row ≡ cond (same before y x) 1 0 + count_of before y (without place row)

abbrev pub RemovalOfFirstLeavesTheOthers : {X : Type 0} → (X → X → Bool) → Type 0
RemovalOfFirstLeavesTheOthers {X} before = (x : X) (row : List X) (place : ℕ) → first_of before x row ≡ Some place → without place row ≡ without_one before x row

abbrev pub CuttingKeepsOrder : {X : Type 0} → (X → X → Bool) → Type 0
CuttingKeepsOrder {X} before = (place : ℕ) (row : List X) → sorted before row ≡ true → sorted before (take place row) ≡ true

abbrev pub SheddingKeepsOrder : {X : Type 0} → (X → X → Bool) → Type 0
SheddingKeepsOrder {X} before = (gone : ℕ) (row : List X) → sorted before row ≡ true → sorted before (drop gone row) ≡ true

abbrev pub RemovalKeepsOrder : {X : Type 0} → (X → X → Bool) → Type 0
RemovalKeepsOrder {X} before = (place : ℕ) (row : List X) → sorted before row ≡ true → sorted before (without place row) ≡ true

-- x stands in the row, and no record of the row comes before it
pub record Least {X : Type 0} (before : X → X → Bool) (x : X) (row : List X) : Type 0 where
  pub stands : 1 ≤ count_of before x row
  pub first : none_before before x row ≡ true

-- what an answer of `least` says of the row
abbrev pub LeastTold : {X : Type 0} → (X → X → Bool) → Option X → List X → Type 0
LeastTold before None row = row ≡ []
LeastTold before (Some x) row = Least before x row

abbrev pub LeastComesFirst : {X : Type 0} → (X → X → Bool) → Type 0
LeastComesFirst {X} before = (row : List X) → LeastTold before (least before row) row

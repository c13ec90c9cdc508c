-- Ordered rows. A row lies in front of a memory: the row of `memory` at `count` is `take count memory`,
-- which stops at the memory's end.
use Rattle.std.specs.Prelude.{ℕ, suc, ◌+◌, ◌-◌, Bool, true, cond, not, ◌&&◌, List, [], ◌∷◌, ◌++◌, length, take, drop, Some, None, Ok, Err, Option, Result, nat_lt}
use Rattle.rows.specs.declared.refusal.Refusal.{Refusal}
use Rattle.rows.specs.declared.refusal.Refusal.TheVariants.{Full}
use Rattle.rows.specs.Order.{same}

-- ---- rows

-- the record before the first greater one
abbrev pub insert : {X : Type 0} → (X → X → Bool) → X → List X → List X
insert before x [] = x ∷ []
insert before x (y ∷ ys) = cond (before x y) (x ∷ y ∷ ys) (y ∷ insert before x ys)

-- a row without the record at a place
abbrev pub without : {X : Type 0} → ℕ → List X → List X
without place row = take place row ++ drop (place + 1) row

-- a row without the first record that is x
abbrev pub without_one : {X : Type 0} → (X → X → Bool) → X → List X → List X
without_one before x [] = []
without_one before x (y ∷ ys) = cond (same before x y) ys (y ∷ without_one before x ys)

-- how many records of the row are x
abbrev pub count_of : {X : Type 0} → (X → X → Bool) → X → List X → ℕ
count_of before x [] = 0
count_of before x (y ∷ ys) = cond (same before x y) (suc (count_of before x ys)) (count_of before x ys)

-- no record of the row comes before x
abbrev pub none_before : {X : Type 0} → (X → X → Bool) → X → List X → Bool
none_before before x [] = true
none_before before x (y ∷ ys) = not (before y x) && none_before before x ys

-- no record comes before one that stands in front of it
abbrev pub sorted : {X : Type 0} → (X → X → Bool) → List X → Bool
sorted before [] = true
sorted before (x ∷ xs) = none_before before x xs && sorted before xs

-- ---- searches

-- the first place whose record passes a test, or the row's end
abbrev pub first_at : {X : Type 0} → (X → Bool) → List X → ℕ
first_at test [] = 0
first_at test (y ∷ ys) = cond (test y) 0 (suc (first_at test ys))

-- the place of the first record greater than x, or the row's end
abbrev pub place_of : {X : Type 0} → (X → X → Bool) → X → List X → ℕ
place_of before x = first_at (before x)

-- a place, if the row has it
abbrev pub within : {X : Type 0} → List X → ℕ → Option ℕ
within row place = cond (nat_lt place (length row)) (Some place) None

-- the place of the first record that is x
abbrev pub first_of : {X : Type 0} → (X → X → Bool) → X → List X → Option ℕ
first_of before x row = within row (first_at (same before x) row)

-- a later place, if there is one, else this one if the record here is x
abbrev pub later_or : Option ℕ → Bool → Option ℕ
later_or (Some k) here = Some (suc k)
later_or None here = cond here (Some 0) None

-- the place of the last record that is x
abbrev pub last_of : {X : Type 0} → (X → X → Bool) → X → List X → Option ℕ
last_of before x [] = None
last_of before x (y ∷ ys) = later_or (last_of before x ys) (same before x y)

-- the lesser of a record and the least behind it
abbrev pub nearer : {X : Type 0} → (X → X → Bool) → X → Option X → Option X
nearer before x None = Some x
nearer before x (Some y) = Some (cond (before y x) y x)

-- the lesser of two records, if there are two
abbrev pub lesser : {X : Type 0} → (X → X → Bool) → Option X → Option X → Option X
lesser before None other = other
lesser before (Some x) other = nearer before x other

-- the least record of a row
abbrev pub least : {X : Type 0} → (X → X → Bool) → List X → Option X
least before [] = None
least before (x ∷ xs) = nearer before x (least before xs)

-- ---- memories

-- a row in front, and behind it what the memory held there
abbrev pub in_front : {X : Type 0} → List X → List X → List X
in_front row memory = row ++ drop (length row) memory

-- a memory whose row, which ends at `end`, has x at a place, and from there on is one place further back
abbrev pub opened : {X : Type 0} → List X → ℕ → ℕ → X → List X
opened memory at end x = take at memory ++ (x ∷ (drop at (take end memory) ++ drop (end + 1) memory))

-- a memory whose row, which ends at `end`, lacks `gone` records at a place
abbrev pub closed : {X : Type 0} → List X → ℕ → ℕ → ℕ → List X
closed memory at gone end = take at memory ++ (drop (at + gone) (take end memory) ++ drop (end - gone) memory)

-- whether one more record has room
abbrev pub has_room : {X : Type 0} → List X → ℕ → Bool
has_room memory count = nat_lt (length (take count memory)) (length memory)

-- what `put` answers: the new count, or that the row is full
abbrev pub put_answer : {X : Type 0} → List X → ℕ → Result ℕ Refusal
put_answer memory count = cond (has_room memory count) (Ok (length (take count memory) + 1)) (Err Full)

-- the memory after `put`
abbrev pub put_memory : {X : Type 0} → (X → X → Bool) → List X → ℕ → X → List X
put_memory before memory count x = cond (has_room memory count) (in_front (insert before x (take count memory)) memory) memory

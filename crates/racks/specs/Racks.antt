-- Rows side by side, one for each address from 0 on.
use Rattle.std.specs.Prelude.{ℕ, ◌<◌, ◌≤◌, cond, List, [], ◌∷◌, length, Ok, Err, Result, nat_lt, slice_index_or, slice_set}
use Rattle.bus.specs.declared.Message.{Message}
use Rattle.bus.specs.declared.Words.{Words}
use Rattle.bus.specs.Reactions.{Sends, Rule, unmoved}
use Rattle.savers.specs.declared.refusal.Refusal.{Refusal as SaverRefusal}
use Rattle.savers.specs.Rows.{Row, longest, follow, newest, row_taken, answer_taken, row_back, row_forgot, answer_if_has}
use Rattle.racks.specs.declared.refusal.Refusal.{Refusal}
use Rattle.racks.specs.declared.refusal.Refusal.TheVariants.{NoBoard, Saver}

-- the rule at an address; one that has no board moves nothing
abbrev pub rule_at : List Rule → ℕ → Rule
rule_at rules k = slice_index_or rules k unmoved

abbrev pub row_at : List Row → ℕ → Row
row_at rows k = slice_index_or rows k []

-- each row has its start, and at most a saver's capacity more
abbrev pub Sized : List Row → Type 0
Sized rows = (k : ℕ) → k < length rows → (1 ≤ length (row_at rows k)) × (length (row_at rows k) ≤ longest)

-- a saver's answer as the rack's own
abbrev pub passed_on : {T : Type 0} → Result T SaverRefusal → Result T Refusal
passed_on (Ok x) = Ok x
passed_on (Err e) = Err (Saver e)

-- the answer of the saver at an address, or first of all the refusal of an address that has none
abbrev pub at_address : {T : Type 0} → List Row → ℕ → Result T SaverRefusal → Result T Refusal
at_address rows k answer = cond (nat_lt k (length rows)) (passed_on answer) (Err NoBoard)

-- The rows after a call to an address: no other row changes, and none where no saver has that address.
abbrev pub rows_begun : List Row → ℕ → Words → List Row
rows_begun rows k start = slice_set rows k (start ∷ [])

abbrev pub rows_taken : List Rule → List Row → ℕ → Message → List Row
rows_taken rules rows k m = slice_set rows k (row_taken (rule_at rules k) (row_at rows k) m)

abbrev pub rows_back : List Row → ℕ → ℕ → List Row
rows_back rows k n = slice_set rows k (row_back (row_at rows k) n)

abbrev pub rows_forgot : List Row → ℕ → ℕ → List Row
rows_forgot rows k n = slice_set rows k (row_forgot (row_at rows k) n)

-- what the calls answer
abbrev pub answers_begun : List Row → ℕ → Result (Unit {0}) Refusal
answers_begun rows k = at_address rows k (Ok tt)

abbrev pub answers_taken : List Rule → List Row → ℕ → Message → Result Sends Refusal
answers_taken rules rows k m = at_address rows k (answer_taken (rule_at rules k) (row_at rows k) m)

abbrev pub answers_if_has : List Row → ℕ → ℕ → Result (Unit {0}) Refusal
answers_if_has rows k n = at_address rows k (answer_if_has (row_at rows k) n)

abbrev pub newest_at : List Row → ℕ → Result Words Refusal
newest_at rows k = at_address rows k (Ok (newest (row_at rows k)))

abbrev pub follow_at : List Row → ℕ → Result ℕ Refusal
follow_at rows k = at_address rows k (Ok (follow (row_at rows k)))

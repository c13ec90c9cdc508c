-- A saver's row: the start's words, then the words after each message that it holds.
use Rattle.std.specs.Prelude.{ℕ, ◌+◌, ◌-◌, Bool, cond, List, [], ◌∷◌, ◌++◌, length, take, drop, Ok, Err, Result, nat_le, nat_lt, slice_index_or}
use Rattle.bus.specs.declared.Message.{Message}
use Rattle.bus.specs.declared.Words.{Words}
use Rattle.bus.specs.Reactions.{Sends, Rule, zeros}
use Rattle.savers.specs.declared.refusal.Refusal.{Refusal}
use Rattle.savers.specs.declared.refusal.Refusal.TheVariants.{Full, TooFew}

abbrev pub Row : Type 0
Row = List Words

-- how many messages a saver holds at most
abbrev pub capacity : ℕ
capacity = 32

-- the length of the longest row: the start, and one quadruple for each message
abbrev pub longest : ℕ
longest = capacity + 1

-- how many quadruples follow the start
abbrev pub follow : Row → ℕ
follow row = length row - 1

-- the last quadruple
abbrev pub newest : Row → Words
newest row = slice_index_or row (follow row) zeros

abbrev pub has_room : Row → Bool
has_room row = nat_lt (follow row) capacity

abbrev pub has : Row → ℕ → Bool
has row n = nat_le n (follow row)

-- the row, and the answer, once a message has been taken
abbrev pub row_taken : Rule → Row → Message → Row
row_taken rule row m = cond (has_room row) (row ++ (rule (newest row) m).words ∷ []) row

abbrev pub answer_taken : Rule → Row → Message → Result Sends Refusal
answer_taken rule row m = cond (has_room row) (Ok (rule (newest row) m).sends) (Err Full)

-- the start and the first n after it
abbrev pub row_back : Row → ℕ → Row
row_back row n = cond (has row n) (take (n + 1) row) row

-- the n-th after the start is the new start
abbrev pub row_forgot : Row → ℕ → Row
row_forgot row n = cond (has row n) (drop n row) row

-- what going back and forgetting answer
abbrev pub answer_if_has : Row → ℕ → Result (Unit {0}) Refusal
answer_if_has row n = cond (has row n) (Ok tt) (Err TooFew)

-- Words that are reached again from a checkpoint.
use Rattle.std.specs.Prelude.{ℕ, ◌+◌, ◌-◌, ◌*◌, ◌/◌, ◌%◌, List, [], ◌∷◌, map, length, take, drop, slice_index_or}
use Rattle.std.specs.List.{range_with_len}
use Rattle.bus.specs.declared.Message.{Message}
use Rattle.bus.specs.declared.Words.{Words}
use Rattle.bus.specs.Reactions.{Rule, zeros}
use Rattle.savers.specs.Rows.{Row}

-- a checkpoint stands at every fourth place
abbrev pub step : ℕ
step = 4

-- the words after some messages
abbrev pub after : Rule → Words → List Message → Words
after rule w [] = w
after rule w (m ∷ ms) = after rule (rule w m).words ms

-- the messages since the last checkpoint at or before a place
abbrev pub since : List Message → ℕ → List Message
since messages place = take (place % step) (drop (place / step * step) messages)

-- the words at a place
abbrev pub reached : Rule → List Words → List Message → ℕ → Words
reached rule checkpoints messages place = after rule (slice_index_or checkpoints (place / step) zeros) (since messages place)

-- the row: the words at each place from the first on
abbrev pub replayed : Rule → List Words → List Message → ℕ → Row
replayed rule checkpoints messages first = map (reached rule checkpoints messages) (range_with_len first (length messages - first + 1))

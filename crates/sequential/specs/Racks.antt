-- What the machine does to a rack: each board's saver holds the board's words alone.
use Rattle.std.specs.Prelude.{ℕ, ◌+◌, min, Bool, cond, List, [], length, Ok, Err, Result, nat_lt, slice_index, slice_set}
use Rattle.bus.specs.declared.Message.{Message}
use Rattle.bus.specs.Reactions.{Sends, Rule, listed}
use Rattle.bus.specs.declared.up_to_two.UpToTwo.TheVariants.{Nothing}
use Rattle.savers.specs.Rows.{Row}
use Rattle.racks.specs.declared.refusal.Refusal.{Refusal}
use Rattle.racks.specs.Racks.{rows_taken, rows_forgot, answers_taken}
use Rattle.addressing.specs.Settings.{addressed_in}

-- the rows once the destination's saver has taken a message and forgotten the words before it
abbrev pub rows_reacted : List Rule → List Row → Message → List Row
rows_reacted rules rows m = rows_forgot (rows_taken rules rows m.destination m) m.destination 1

-- the sends of an answer; none of a refusal
abbrev pub sends_of : Result Sends Refusal → Sends
sends_of (Ok sends) = sends
sends_of (Err e) = Nothing

abbrev pub sends_reacted : List Rule → List Row → Message → Sends
sends_reacted rules rows m = sends_of (answers_taken rules rows m.destination m)

-- whether a message goes to one of the boards
abbrev pub to_board : List Rule → Message → Bool
to_board rules m = nat_lt m.destination (min (length rules) 8)

-- the rows once a message has been taken
abbrev pub rows_after : List Rule → List Row → Message → List Row
rows_after rules rows m = cond (to_board rules m) (rows_reacted rules rows m) rows

-- the messages that then are sent, where each board has sent so many before
abbrev pub messages_after : List Rule → ℕ → List Row → List ℕ → Message → List Message
messages_after rules end rows sent m =
    cond (to_board rules m)
    (addressed_in (min (length rules) 8) end m.destination m.time (slice_index sent m.destination) (listed (sends_reacted rules rows m)))
    []

-- how many messages each board has sent after n more
abbrev pub sent_after : List Rule → List ℕ → Message → ℕ → List ℕ
sent_after rules sent m n = cond (to_board rules m) (slice_set sent m.destination (slice_index sent m.destination + n)) sent

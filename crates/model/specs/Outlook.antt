-- The outlook: the least message outstanding.
use Rattle.std.specs.Prelude.{List, ◌++◌, map, Option}
use Rattle.rows.specs.Rows.{least}
use Rattle.bus.specs.declared.Message.{Message}
use Rattle.bus.specs.Order.{message_before}
use Rattle.model.specs.State.{State, Queues, inside, flat}

-- what a board has outstanding
abbrev pub open_and_early : Queues → List Message
open_and_early q = q.open_ones ++ q.early

-- outstanding: all open messages, early anti-messages, and items of both signs
abbrev pub outstanding : State → List Message
outstanding s = flat (map open_and_early s.boards) ++ map inside s.transit

abbrev pub outlook : State → Option Message
outlook s = least message_before (outstanding s)

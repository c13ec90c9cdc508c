-- What the memory of boards' queues stands for.
use Rattle.std.specs.Prelude.{ℕ, List, [], ◌∷◌, length, map, take, drop, Some, None, Option, slice_index_or}
use Rattle.rows.specs.Held.{held}
use Rattle.bus.specs.declared.Message.{Message}
use Rattle.model.specs.State.{Event, Queues, no_queues}
use Rattle.model.specs.Run.{stood}
use Rattle.queues.specs.declared.board.BoardQueues.{BoardQueues}
use Rattle.queues.specs.declared.table.Table.{Table}
use Rattle.queues.specs.Memory.{messages_of}

-- the standing events: each message with its own sends, which are split off the outputs
abbrev pub events : List Message → List ℕ → List Message → List Event
events [] ns out = []
events (m ∷ ms) [] out = []
events (m ∷ ms) (n ∷ ns) out = record { message = m; sends = take n out } ∷ events ms ns (drop n out)

abbrev pub outputs_of : BoardQueues → List Message
outputs_of q = messages_of (held q.outputs)

-- as many events stand as there are numbers of sends
abbrev pub queues_of : BoardQueues → Queues
queues_of q = record {
  standing = events (take (length (held q.sends)) (held q.messages)) (held q.sends) (outputs_of q);
  open_ones = drop (length (held q.sends)) (held q.messages);
  early = held q.early;
  sent = q.sent;
}

abbrev pub boards_in : Table → List Queues
boards_in t = map queues_of t.entries

abbrev pub board_in : Table → ℕ → Queues
board_in t k = slice_index_or (boards_in t) k no_queues

abbrev pub first_message : List Message → Option Message
first_message [] = None
first_message (m ∷ ms) = Some m

-- the first open message stands, with what it sent
abbrev pub stood_on : List Message → Queues → List Message → Queues
stood_on out q [] = q
stood_on out q (m ∷ rest) = stood q m rest out

abbrev pub first_stands : List Message → Queues → Queues
first_stands out q = stood_on out q q.open_ones

-- The least of messages and of a rest.
use Rattle.std.specs.Prelude.{List, [], ◌∷◌, Option}
use Rattle.rows.specs.Rows.{nearer}
use Rattle.bus.specs.declared.Message.{Message}
use Rattle.bus.specs.Order.{message_before}

-- the least of a row and of the rest
abbrev pub least_onto : List Message → Option Message → Option Message
least_onto [] rest = rest
least_onto (x ∷ xs) rest = nearer message_before x (least_onto xs rest)

-- The sooner of two fronts.
use Rattle.std.specs.Prelude.{ℕ, cond, Some, None, Option}
use Rattle.bus.specs.declared.Message.{Message}
use Rattle.bus.specs.Order.{message_before}
use Rattle.model.specs.declared.front.Front.{Front}

-- the front so far, or that of board k, a later one, if its message is before
abbrev pub sooner : Option Front → ℕ → Option Message → Option Front
sooner None k None = None
sooner None k (Some m) = Some (record { board = k; message = m })
sooner (Some f) k None = Some f
sooner (Some f) k (Some m) = cond (message_before m f.message) (Some (record { board = k; message = m })) (Some f)

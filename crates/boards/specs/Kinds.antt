-- The kind of a message.
use Rattle.std.specs.Prelude.{ℕ, Bool, ◌==◌}
use Rattle.bus.specs.declared.Message.{Message}

abbrev pub is : Message → ℕ → Bool
is m kind = m.kind == kind

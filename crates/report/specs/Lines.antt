-- The text of a line of the log: L and the six fields.
use Rattle.std.specs.Prelude.{ℕ, List, [], ◌∷◌, ◌++◌, codes}
use Rattle.bus.specs.declared.Message.{Message}
use Rattle.bus.specs.Lines.{fields}

abbrev pub log_line : Message → List ℕ
log_line m = codes "L " ++ fields m ++ 10 ∷ []

-- The records of a row that owns its memory.
use Rattle.std.specs.Prelude.{ℕ, List, take}
use Rattle.rows.specs.declared.owned.Row.{Row}

unfoldable pub held : {T : Type 0} {N : ℕ} → Row T N → List T
held r = take r.count r.memory

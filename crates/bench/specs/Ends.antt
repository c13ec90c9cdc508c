-- What a bench came to.
use Rattle.std.specs.Prelude.{length}
use Rattle.model.specs.State.{State, standing}
use Rattle.bench.specs.declared.closed.Totals.{Totals}

abbrev pub totals_of : State → Totals
totals_of s = record { committed = s.counters.committed; standing = length (standing s); undone = s.counters.undone }

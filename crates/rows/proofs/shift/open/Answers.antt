-- The records from the gap on are copied up by one, and the record stands in the gap.
use Rattle.std.proofs.Common.{set, ap, ◌∙◌}
use Rattle.rows.proofs.Shifts.{open_is}
use Rattle.rows.proofs.shift.open.Goals as goal

pub returns : goal.returns
returns g c = ap (λ memory. set memory c.args.at c.args.item) c.copy_within.ensures.after ∙ open_is c.args.memory.now c.args.at c.args.end c.requires.0 c.args.item c.requires.1

-- The records behind the gap are copied down to it.
use Rattle.std.proofs.Common.{◌∙◌}
use Rattle.rows.proofs.Shifts.{close_is}
use Rattle.rows.proofs.shift.close.Goals as goal

pub returns : goal.returns
returns g c = c.copy_within.ensures.after ∙ close_is c.args.memory.now c.args.at c.args.gone c.args.end c.requires.0

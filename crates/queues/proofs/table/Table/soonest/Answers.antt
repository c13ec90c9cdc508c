-- One board after the other.
use Rattle.std.proofs.Common.{None, ◌∙◌}
use Rattle.queues.proofs.Fronts.{soonest_from}
use Rattle.queues.proofs.table.Table.soonest.Goals as goal

pub returns : goal.returns
returns c = c.soonest_of.ensures ∙ soonest_from None 0 c.args.self.now.entries

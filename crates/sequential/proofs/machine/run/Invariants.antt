-- After each turn the memory holds what the machine has, and the run had to go on until then.
use Rattle.std.proofs.Common.{◌-◌}
use Rattle.sequential.proofs.Goings.{Going}
use Rattle.sequential.proofs.machine.run.Given as goal

abbrev pub invariant-loop-ended : goal.invariant-loop-ended
invariant-loop-ended g l =
    Going g.R.Rack.rules l.end l.starts l.initial.pending l.count l.lines
    (g.R.Rack.rows l.initial.rack) l.initial.log
    l.steps l.held (g.R.Rack.rows l.rack) l.sent l.pending l.log

abbrev pub decreases-loop-ended : goal.decreases-loop-ended
decreases-loop-ended g l = l.lines - l.steps

-- The calls so far are what the front of the file holds.
use Rattle.std.proofs.Common.{length, vec_items}
use Rattle.schedule.proofs.Laws.{Sofar}
use Rattle.schedule.proofs.file.read.Given as goal

abbrev pub invariant-loop-rest : goal.invariant-loop-rest
invariant-loop-rest l = Sofar l.bytes l.end (vec_items l.calls) l.rest

abbrev pub decreases-loop-rest : goal.decreases-loop-rest
decreases-loop-rest l = length l.rest

-- The lines so far are those of calls, and the size is theirs.
use Rattle.std.proofs.Common.{length}
use Rattle.packing.proofs.Listings.{Measured}
use Rattle.packing.proofs.file.packed_size.Given as goal

abbrev pub invariant-loop-call : goal.invariant-loop-call
invariant-loop-call l = Measured l.lines l.rest l.size l.line

abbrev pub decreases-loop-call : goal.decreases-loop-call
decreases-loop-call l = length l.rest

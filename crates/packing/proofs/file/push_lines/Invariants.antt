-- The calls of the lines so far are written.
use Rattle.std.proofs.Common.{length, vec_items}
use Rattle.packing.proofs.Listings.{Written}
use Rattle.packing.proofs.file.push_lines.Given as goal

abbrev pub invariant-loop-call : goal.invariant-loop-call
invariant-loop-call l = Written l.lines l.rest (vec_items l.initial.bytes) (vec_items l.bytes)

abbrev pub decreases-loop-call : goal.decreases-loop-call
decreases-loop-call l = length l.rest

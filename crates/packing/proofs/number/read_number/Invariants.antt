-- The value is that of the digits so far.
use Rattle.std.proofs.Common.{◌≡◌, ◌+◌, ◌*◌, ◌≤◌, ◌++◌, length, decimal}
use Rattle.packing.proofs.number.read_number.Given as goal

abbrev pub invariant-loop-number : goal.invariant-loop-number
invariant-loop-number g l = (l.text ≡ decimal l.value ++ l.rest) × (l.value ≤ g.N.Narrow.most * 10 + 9)

abbrev pub decreases-loop-number : goal.decreases-loop-number
decreases-loop-number g l = length l.rest

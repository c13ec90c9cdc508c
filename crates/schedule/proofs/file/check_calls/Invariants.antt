-- What is left has the fault that the whole has.
use Rattle.std.proofs.Common.{◌≡◌, ◌-◌, ◌≤◌, length}
use Rattle.schedule.specs.Faults.{calls_fault}
use Rattle.schedule.proofs.file.check_calls.Given as goal

abbrev pub invariant-loop-left : goal.invariant-loop-left
invariant-loop-left l =
    (calls_fault (length l.bytes - length l.initial.left) 0 l.initial.left ≡ calls_fault (length l.bytes - length l.left) 0 l.left)
    × (length l.left ≤ length l.bytes)

abbrev pub decreases-loop-left : goal.decreases-loop-left
decreases-loop-left l = length l.left

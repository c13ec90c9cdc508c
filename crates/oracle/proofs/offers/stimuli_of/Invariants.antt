-- The stimuli are those of the calls so far.
use Rattle.std.proofs.Common.{◌≡◌, take, vec_items}
use Rattle.oracle.specs.Offers.{stimuli_from}
use Rattle.oracle.proofs.offers.stimuli_of.Given as goal

abbrev pub invariant-loop-call : goal.invariant-loop-call
invariant-loop-call l = vec_items l.stimuli ≡ stimuli_from l.end 0 (take l.call-index l.calls)

-- By the bounds, which every call keeps.
use Rattle.model.proofs.Kept.{in_bounds}
use Rattle.model.proofs.theorems.reached_benches_stay_in_bounds.Goals as goal

pub returns : goal.returns
returns c = in_bounds

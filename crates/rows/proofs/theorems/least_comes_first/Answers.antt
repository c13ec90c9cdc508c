-- By what the answer of `least` tells.
use Rattle.rows.proofs.Minimum.{least_told}
use Rattle.rows.proofs.theorems.least_comes_first.Goals as goal

pub returns : goal.returns
returns g c = least_told g.T.TotalOrder.total

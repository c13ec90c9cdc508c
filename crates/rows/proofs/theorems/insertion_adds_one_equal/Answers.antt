-- By the law of counts under insertion.
use Rattle.rows.proofs.Sorted.{count_insert}
use Rattle.rows.proofs.theorems.insertion_adds_one_equal.Goals as goal

pub returns : goal.returns
returns g c = count_insert g.T.TotalOrder.earlier

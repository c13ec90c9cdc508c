-- By the law of the last equal record.
use Rattle.rows.proofs.Found.{last_insert}
use Rattle.rows.proofs.theorems.last_equal_is_where_placed.Goals as goal

pub returns : goal.returns
returns g c = last_insert g.T.TotalOrder.total

-- By the laws of removal at a found place.
use Rattle.rows.proofs.Found.{count_found, without_first}
use Rattle.rows.proofs.theorems.removal_takes_one_equal.Goals as goal

pub returns : goal.returns
returns g c = record { counts = count_found g.T.TotalOrder.total; first = without_first g.T.TotalOrder.earlier }

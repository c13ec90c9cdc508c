-- By the law of insertion into a sorted row.
use Rattle.rows.proofs.Sorted.{insert_sorted}
use Rattle.rows.proofs.theorems.insertion_keeps_order.Goals as goal

pub returns : goal.returns
returns g c = insert_sorted g.T.TotalOrder.total

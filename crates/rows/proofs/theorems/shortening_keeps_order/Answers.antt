-- By the laws of parts of a sorted row.
use Rattle.rows.proofs.Removed.{sorted_take, sorted_drop, sorted_without}
use Rattle.rows.proofs.theorems.shortening_keeps_order.Goals as goal

pub returns : goal.returns
returns g c =
    let before = g.T.TotalOrder.earlier in
    record { cutting = sorted_take before; shedding = sorted_drop before; removal = sorted_without before }

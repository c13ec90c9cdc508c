-- By the order of each board, which every call keeps.
use Rattle.model.proofs.Kept.{rows_in_order}
use Rattle.model.proofs.theorems.reached_benches_keep_their_rows_in_order.Goals as goal

pub returns : goal.returns
returns c = rows_in_order

-- By what the answers of the two searches tell.
use Rattle.rows.proofs.Found.{first_told, last_told}
use Rattle.rows.proofs.theorems.found_place_holds_an_equal.Goals as goal

pub returns : goal.returns
returns g c = record { first = first_told g.T.TotalOrder.earlier; last = last_told g.T.TotalOrder.earlier }

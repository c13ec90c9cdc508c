-- By the order of the in-row.
use Rattle.model.proofs.Cases.{equal_becomes_open}
use Rattle.model.proofs.theorems.an_equal_of_the_last_standing_message_becomes_open.Goals as goal

pub returns : goal.returns
returns c = equal_becomes_open

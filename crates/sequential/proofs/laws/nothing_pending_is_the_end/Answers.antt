-- A step with nothing pending does nothing, and so do more of them.
use Rattle.sequential.proofs.Logs.{stays}
use Rattle.sequential.proofs.laws.nothing_pending_is_the_end.Goals as goal

pub returns : goal.returns
returns _ = stays

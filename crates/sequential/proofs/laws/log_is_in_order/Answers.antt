-- The law of logs, at their order.
use Rattle.sequential.proofs.Logs.{lawful}
use Rattle.sequential.proofs.laws.log_is_in_order.Goals as goal

pub returns : goal.returns
returns _ = λ c starts stimuli n. (lawful c starts stimuli n).in_order

-- The law of logs, at its causes.
use Rattle.sequential.proofs.Logs.{lawful}
use Rattle.sequential.proofs.laws.each_line_has_a_cause.Goals as goal

pub returns : goal.returns
returns _ = λ c starts stimuli n. (lawful c starts stimuli n).caused

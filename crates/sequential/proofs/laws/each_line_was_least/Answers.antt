-- The law of logs, at its turns.
use Rattle.sequential.proofs.Logs.{lawful}
use Rattle.sequential.proofs.laws.each_line_was_least.Goals as goal

pub returns : goal.returns
returns _ = λ c starts stimuli n. (lawful c starts stimuli n).least_in_turn

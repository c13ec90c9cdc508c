-- What a run's outcomes, log and totals tell.
use Rattle.std.specs.Prelude.{◌≡◌, ℕ, List, map}
use Rattle.bus.specs.declared.Message.{Message}
use Rattle.bench.specs.Ends.{totals_of}
use Rattle.bench.specs.declared.closed.Totals.{Totals}
use Rattle.model.specs.declared.call.Call.{Call}
use Rattle.model.specs.declared.outcome.Outcome.{Outcome}
use Rattle.model.specs.Outcomes.{outcome_of}
use Rattle.model.specs.Perform.{lines}
use Rattle.playing.specs.Runs.{told_by, left_by}

-- they are those of these calls up to this end time
pub record Tells (end : ℕ) (calls : List Call) (outcomes : List Outcome) (log : List Message) (totals : Totals) : Type 0 where
  pub outcomes_are_the_models : outcomes ≡ map outcome_of (told_by end calls)
  pub log_is_the_committed_lines : log ≡ lines (told_by end calls)
  pub totals_are_those_of_the_state_left : totals ≡ totals_of (left_by end calls)

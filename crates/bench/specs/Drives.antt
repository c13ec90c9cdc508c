-- What calls come to on the bench that a set-up starts.
use Rattle.std.specs.Prelude.{◌≡◌, ℕ, min, List, map, length, take}
use Rattle.rows.specs.Rows.{in_front}
use Rattle.bus.specs.declared.Message.{Message}
use Rattle.model.specs.declared.call.Call.{Call}
use Rattle.model.specs.declared.outcome.Outcome.{Outcome}
use Rattle.model.specs.State.{started}
use Rattle.model.specs.Perform.{after, answers, lines}
use Rattle.model.specs.Law.{Lawful}
use Rattle.model.specs.Outcomes.{outcome_of}
use Rattle.bench.specs.Benches.{Bench}
use Rattle.bench.specs.Setups.{Start, first_rows}

-- the calls that there is memory for
abbrev pub calls_with_memory : List Call → List Outcome → List Message → List Call
calls_with_memory calls outcomes log = take (min (length outcomes) (length log)) calls

-- The bench is left as the rules say, and the outcomes and lines stand in front of the memories, which held something before.
-- The lines are lawful: they are those of the sequential machine.
pub record Drives (u : Start) (calls : List Call) (bench : Bench) (outcomes₀ outcomes : List Outcome) (log₀ log : List Message) (count written : ℕ) : Type 0 where
  pub setting_is_the_given_one : bench.setting ≡ u.setting
  pub state_is_the_models : bench.state ≡ after u.setting (started (first_rows u)) calls
  pub outcomes_are_the_models : outcomes ≡ in_front (map outcome_of (answers u.setting (started (first_rows u)) calls)) outcomes₀
  pub log_holds_the_committed_lines : log ≡ in_front (lines (answers u.setting (started (first_rows u)) calls)) log₀
  pub calls_are_counted : count ≡ length calls
  pub lines_are_counted : written ≡ length (lines (answers u.setting (started (first_rows u)) calls))
  pub lawful : Lawful u.setting u.words (first_rows u) calls

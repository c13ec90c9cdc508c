-- What the bench has written when there is memory for every call.
use Rattle.std.proofs.Common.{◌≡◌, ℕ, suc, ◌≤◌, min, List, [], ◌∷◌, ◌++◌, map, length, take, drop, sym, refl, ap, ◌∙◌, subst, arith}
use Rattle.std.proofs.lemmas.List.{append-nil, take_all, drop_all, take_at, length-map}
use Rattle.bus.specs.declared.Message.{Message}
use Rattle.addressing.specs.Settings.{Setting}
use Rattle.fare_rack.specs.FareRacks.{rows_of_zeros}
use Rattle.model.specs.declared.call.Call.{Call}
use Rattle.model.specs.declared.outcome.Outcome.{Outcome}
use Rattle.model.specs.State.{State, started}
use Rattle.model.specs.Perform.{perform, answers, after, lines}
use Rattle.model.specs.Outcomes.{outcome_of}
use Rattle.bench.specs.declared.closed.Totals.{Totals}
use Rattle.bench.specs.Benches.{Bench}
use Rattle.bench.specs.Setups.{Start, first_rows}
use Rattle.rows.specs.Rows.{in_front}
use Rattle.bench.specs.Ends.{totals_of}
use Rattle.bench.specs.Drives.{Drives, calls_with_memory}
use Rattle.playing.specs.Runs.{setting, told_by, left_by}
use Rattle.playing.specs.Tells.{Tells}

-- every call is answered
answered : (c : Setting) (s : State) (calls : List Call) → length (answers c s calls) ≡ length calls
answered c s [] = refl
answered c s (call ∷ rest) = ap suc (answered c (perform c s call).0 rest)

all_with_memory : (calls : List Call) (outcomes : List Outcome) (log : List Message) → length outcomes ≡ length calls → length log ≡ length calls → calls_with_memory calls outcomes log ≡ calls
all_with_memory calls outcomes log o l =
    let enough : length calls ≤ min (length outcomes) (length log) = omega arith in
    take_all (min (length outcomes) (length log)) calls enough

-- a list written over a memory that has no more than it
covers : {X : Type 0} (xs memory : List X) → length memory ≤ length xs → in_front xs memory ≡ xs
covers xs memory h = ap (λ l. xs ++ l) (drop_all (length xs) memory h) ∙ append-nil xs

-- memories over which all outcomes and lines were written, and the totals of the bench that was left
tells_all : (end : ℕ) (calls : List Call) (outcomes₀ outcomes : List Outcome) (log₀ log : List Message) (written : ℕ) (state : State) (totals : Totals)
    → length outcomes₀ ≡ length calls
    → state ≡ left_by end calls
    → outcomes ≡ in_front (map outcome_of (told_by end calls)) outcomes₀
    → log ≡ in_front (lines (told_by end calls)) log₀
    → written ≡ length (lines (told_by end calls))
    → totals ≡ totals_of state
    → Tells end calls outcomes (take written log) totals
tells_all end calls outcomes₀ outcomes log₀ log written state totals room left told wrote many ends =
    let all : length outcomes₀ ≡ length (map outcome_of (told_by end calls)) =
    room ∙ sym (answered (setting end) (started rows_of_zeros) calls) ∙ sym (length-map (told_by end calls) outcome_of) in
    record {
      outcomes_are_the_models = told ∙ covers (map outcome_of (told_by end calls)) outcomes₀ (omega arith);
      log_is_the_committed_lines = ap (take written) wrote ∙ take_at (lines (told_by end calls)) (drop (length (lines (told_by end calls))) log₀) written (sym many);
      totals_are_those_of_the_state_left = ends ∙ ap totals_of left;
    }

-- so the bench tells that a set-up of the rack started
pub drives_all : (end : ℕ) (calls : List Call) (u : Start) (bench : Bench) (outcomes₀ outcomes : List Outcome) (log₀ log : List Message) (count written : ℕ) (totals : Totals)
    → length outcomes₀ ≡ length calls
    → length log₀ ≡ length calls
    → u.setting ≡ setting end
    → first_rows u ≡ rows_of_zeros
    → Drives u (calls_with_memory calls outcomes₀ log₀) bench outcomes₀ outcomes log₀ log count written
    → totals ≡ totals_of bench.state
    → Tells end calls outcomes (take written log) totals
drives_all end calls u bench outcomes₀ outcomes log₀ log count written totals room places set begins drives ends =
    let all = all_with_memory calls outcomes₀ log₀ room places in
    let d = subst (λ (cs : List Call). Drives u cs bench outcomes₀ outcomes log₀ log count written) all drives in
    let same : answers u.setting (started (first_rows u)) calls ≡ told_by end calls = rw (set, begins) in
    let left : after u.setting (started (first_rows u)) calls ≡ left_by end calls = rw (set, begins) in
    tells_all end calls outcomes₀ outcomes log₀ log written bench.state totals room
    (d.state_is_the_models ∙ left)
    (d.outcomes_are_the_models ∙ ap (λ told. in_front (map outcome_of told) outcomes₀) same)
    (d.log_holds_the_committed_lines ∙ ap (λ told. in_front (lines told) log₀) same)
    (d.lines_are_counted ∙ ap (λ told. length (lines told)) same)
    ends

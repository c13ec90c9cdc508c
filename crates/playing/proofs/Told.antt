-- The text of outcomes and their lines is that of the answers.
use Rattle.std.proofs.Common.{◌≡◌, ℕ, ◌+◌, List, [], ◌∷◌, ◌++◌, map, length, drop, refl, ap, ◌∙◌, append_assoc, subst, Result, OnOk}
use Rattle.std.proofs.lemmas.List.{take_at, drop_at}
use Rattle.bus.specs.declared.Message.{Message}
use Rattle.model.specs.declared.call.Call.{Call}
use Rattle.model.specs.declared.outcome.Outcome.{Outcome}
use Rattle.model.specs.State.{Answer, refused, offered, delivered, ran, looked, committed}
use Rattle.model.specs.Perform.{lines, lines_of}
use Rattle.model.specs.Outcomes.{outcome_of, lines_in}
use Rattle.bench.specs.declared.closed.Totals.{Totals}
use Rattle.playing.specs.Texts.{answer_text, answers_text, totals_line}
use Rattle.playing.specs.Outcomes.{outcome_text, outcomes_text}
use Rattle.playing.specs.Runs.{told_by, run_text}
use Rattle.playing.specs.Tells.{Tells}

-- an outcome tells as many lines as the answer has
lines_in_of : (a : Answer) → length (lines_of a) ≡ lines_in (outcome_of a)
lines_in_of (refused e) = refl
lines_in_of (offered n) = refl
lines_in_of (delivered n) = refl
lines_in_of (ran n) = refl
lines_in_of (looked o) = refl
lines_in_of (committed ls) = refl

one_told : (index : ℕ) (a : Answer) → outcome_text index (outcome_of a) (lines_of a) ≡ answer_text index a
one_told index (refused e) = refl
one_told index (offered n) = refl
one_told index (delivered n) = refl
one_told index (ran n) = refl
one_told index (looked o) = refl
one_told index (committed ls) = refl

all_told : (index : ℕ) (told : List Answer) → outcomes_text index (map outcome_of told) (lines told) ≡ answers_text index told
all_told index [] = refl
all_told index (a ∷ rest) =
    let n = lines_in (outcome_of a) in
    let later = outcomes_text (index + 1) (map outcome_of rest) in
    ap (λ ls. outcome_text index (outcome_of a) ls ++ later (drop n (lines (a ∷ rest)))) (take_at (lines_of a) (lines rest) n (lines_in_of a))
    ∙ ap (λ ls. outcome_text index (outcome_of a) (lines_of a) ++ later ls) (drop_at (lines_of a) (lines rest) n (lines_in_of a))
    ∙ ap (λ t. t ++ later (lines rest)) (one_told index a)
    ∙ ap (λ t. answer_text index a ++ t) (all_told (index + 1) rest)

-- the outcomes, log and totals of a run tell the text of the run
run_told : (end : ℕ) (calls : List Call) (outcomes : List Outcome) (log : List Message) (totals : Totals) → Tells end calls outcomes log totals → outcomes_text 0 outcomes log ++ totals_line totals.committed totals.standing totals.undone ≡ run_text end calls
run_told end calls outcomes log totals tells =
    let last = totals_line totals.committed totals.standing totals.undone in
    ap (λ os. outcomes_text 0 os log ++ last) tells.outcomes_are_the_models
    ∙ ap (λ ls. outcomes_text 0 (map outcome_of (told_by end calls)) ls ++ last) tells.log_is_the_committed_lines
    ∙ ap (λ t. t ++ last) (all_told 0 (told_by end calls))
    ∙ ap (λ (t : Totals). answers_text 0 (told_by end calls) ++ totals_line t.committed t.standing t.undone) tells.totals_are_those_of_the_state_left

-- so a text to which they are added goes on by that of the run
pub run_added :
    {T E : Type 0} (r : Result T E) (before text : List ℕ) (end : ℕ) (calls others : List Call) (outcomes : List Outcome) (log : List Message) (totals : Totals)
    → Tells end calls outcomes log totals
    → calls ≡ others
    → OnOk r (text ≡ before ++ outcomes_text 0 outcomes log ++ totals_line totals.committed totals.standing totals.undone)
    → OnOk r (text ≡ before ++ run_text end others)
run_added r before text end calls others outcomes log totals tells same wrote =
    let told = append_assoc before (outcomes_text 0 outcomes log) (totals_line totals.committed totals.standing totals.undone)
    ∙ ap (λ t. before ++ t) (run_told end calls outcomes log totals tells ∙ ap (run_text end) same) in
    subst (λ (t : List ℕ). OnOk r (text ≡ t)) told wrote

-- The text that is printed of a schedule file.
use Rattle.std.specs.Prelude.{ℕ, ◌+◌, cond, List, [], ◌∷◌, ◌++◌, length, Some, None, Ok, Err, codes, decimal, Option, ◌==◌}
use Rattle.std.specs.List.{flat_map}
use Rattle.report.specs.Lines.{log_line}
use Rattle.schedule.specs.declared.call.Call.{Call}
use Rattle.schedule.specs.Lines.{fault_text}
use Rattle.schedule.specs.Reading.{reading}
use Rattle.sequential.specs.Sequential.{Machine}
use Rattle.oracle.specs.declared.offers.Refusal.{Refusal}
use Rattle.oracle.specs.Offers.{refusal_number, refusal_of, stimuli_from}
use Rattle.oracle.specs.Machines.{machine_on}

-- R, the place of the call among the calls, and the refusal's number; nothing of a call that is not refused
abbrev pub refusal_line : ℕ → Option Refusal → List ℕ
refusal_line index None = []
refusal_line index (Some refusal) = codes "R " ++ decimal index ++ codes " " ++ decimal (refusal_number refusal) ++ 10 ∷ []

-- the lines of the refused offers; the first of these calls has this place
abbrev pub refusals_from : ℕ → ℕ → List Call → List ℕ
refusals_from end index [] = []
refusals_from end index (call ∷ calls) = refusal_line index (refusal_of end call) ++ refusals_from end (index + 1) calls

-- E where nothing is pending, S where the run stopped before, and how many lines there are
abbrev pub last_line : ℕ → ℕ → List ℕ
last_line lines pending = cond (pending == 0) (codes "E ") (codes "S ") ++ decimal lines ++ 10 ∷ []

abbrev pub machine_text : Machine → List ℕ
machine_text m = flat_map log_line m.log ++ last_line (length m.log) (length m.pending)

-- what is printed of a sound schedule
abbrev pub run_text : ℕ → List Call → List ℕ
run_text end calls = refusals_from end 0 calls ++ machine_text (machine_on end (stimuli_from end 0 calls))

-- the whole text
abbrev pub reference_text : List ℕ → List ℕ
reference_text bytes = elim (reading bytes) [ Ok s ↦ run_text s.0 s.1 | Err fault ↦ fault_text fault ++ 10 ∷ [] ]

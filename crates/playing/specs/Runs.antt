-- The run of a schedule file on the rack of a fare computer, a reader and a ticker: its text, and its law.
use Rattle.std.specs.Prelude.{◌≡◌, ℕ, List, [], ◌∷◌, ◌++◌, map, Ok, Err, Result}
use Rattle.bus.specs.declared.Words.{Words}
use Rattle.bus.specs.Reactions.{zeros}
use Rattle.addressing.specs.Settings.{Setting}
use Rattle.fare_rack.specs.FareRacks.{fare_rules, rows_of_zeros}
use Rattle.schedule.specs.declared.call.Call.{Call as Written}
use Rattle.schedule.specs.declared.file.Fault.{Fault}
use Rattle.schedule.specs.Lines.{fault_text}
use Rattle.schedule.specs.Reading.{reading}
use Rattle.model.specs.declared.call.Call.{Call}
use Rattle.model.specs.State.{State, Answer, started}
use Rattle.model.specs.Perform.{after, answers}
use Rattle.model.specs.Law.{Lawful}
use Rattle.playing.specs.Asked.{asked}
use Rattle.playing.specs.Texts.{answers_text, totals_text}

-- the rules of the fare computer at address 0, the reader at 1 and the ticker at 2, and the end time
abbrev pub setting : ℕ → Setting
setting end = record { rules = fare_rules; end = end }

-- every board starts with four zeros
abbrev pub starts : List Words
starts = zeros ∷ zeros ∷ zeros ∷ []

-- what the calls answer on a new bench, whose savers hold the start words alone
abbrev pub told_by : ℕ → List Call → List Answer
told_by end calls = answers (setting end) (started rows_of_zeros) calls

-- the state in which they leave it
abbrev pub left_by : ℕ → List Call → State
left_by end calls = after (setting end) (started rows_of_zeros) calls

-- what is told of each call, and the totals
abbrev pub run_text : ℕ → List Call → List ℕ
run_text end calls = answers_text 0 (told_by end calls) ++ totals_text (left_by end calls)

-- what is printed of a file that reads so: of a faulty one the fault alone
abbrev pub reading_text : Result (ℕ × List Written) Fault → List ℕ
reading_text (Ok s) = run_text s.0 (map asked s.1)
reading_text (Err fault) = fault_text fault ++ 10 ∷ []

-- the whole text that is printed of a file
abbrev pub play_text : List ℕ → List ℕ
play_text bytes = reading_text (reading bytes)

-- the law of runs, for the run of a sound file
abbrev pub LinesAreTheSequentialLog : List ℕ → Type 0
LinesAreTheSequentialLog bytes = (end : ℕ) (calls : List Written) → reading bytes ≡ Ok (end, calls) → Lawful (setting end) starts rows_of_zeros (map asked calls)

-- What holds of the log that is printed of a sound schedule file.
use Rattle.std.specs.Prelude.{◌≡◌, ℕ, ◌+◌, List, [], Ok}
use Rattle.schedule.specs.declared.call.Call.{Call}
use Rattle.schedule.specs.Reading.{reading}
use Rattle.sequential.specs.Laws.{after, LawfulLog}
use Rattle.oracle.specs.Offers.{stimuli_from}
use Rattle.oracle.specs.Machines.{longest_log, setting, starts, machine_on}

-- the lines are in order, each was the least pending one when it was taken, and each has a cause
abbrev pub LogIsLawful : List ℕ → Type 0
LogIsLawful bytes =
    (end : ℕ) (calls : List Call) → reading bytes ≡ Ok (end, calls) →
    LawfulLog (setting end) starts (stimuli_from end 0 calls) (machine_on end (stimuli_from end 0 calls)).log

-- where nothing is pending the log is whole: no step more changes the machine
abbrev pub NothingComesAfterTheEnd : List ℕ → Type 0
NothingComesAfterTheEnd bytes =
    (end : ℕ) (calls : List Call) → reading bytes ≡ Ok (end, calls) →
    (machine_on end (stimuli_from end 0 calls)).pending ≡ [] →
    (k : ℕ) → after (setting end) starts (stimuli_from end 0 calls) (longest_log + k) ≡ machine_on end (stimuli_from end 0 calls)

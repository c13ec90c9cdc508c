-- What holds of every log that the one-by-one machine writes.
use Rattle.std.specs.Prelude.{◌≡◌, ℕ, ◌+◌, ◌<◌, true, ◌⊎◌, List, [], length, Some, slice_index_or}
use Rattle.std.specs.List.{Contains}
use Rattle.bus.specs.declared.Message.{Message}
use Rattle.bus.specs.declared.Words.{Words}
use Rattle.bus.specs.Order.{message_before}
use Rattle.rows.specs.Rows.{sorted, least}
use Rattle.addressing.specs.Settings.{Setting}
use Rattle.sequential.specs.Sequential.{Machine, fresh, sending, steps}

-- the machine n steps after its start
abbrev pub after : Setting → List Words → List Message → ℕ → Machine
after c starts stimuli n = steps c n (fresh c starts stimuli)

-- line i of a log; past its end, a message of zeros
abbrev pub line : List Message → ℕ → Message
line log i = slice_index_or log i (record { time = 0; source = 0; number = 0; destination = 0; kind = 0; payload = 0 })

-- line i is among the messages that the machine sent when it took line j, and j is the earlier one
pub record SentBy (c : Setting) (starts : List Words) (stimuli log : List Message) (i j : ℕ) : Type 0 where
  pub earlier : j < i
  pub sent : Contains (sending c (after c starts stimuli j) (line log j)) (line log i)

-- line i is a stimulus, or an earlier line sent it
abbrev pub Caused : Setting → List Words → List Message → List Message → ℕ → Type 0
Caused c starts stimuli log i = Contains stimuli (line log i) ⊎ ((j : ℕ) × SentBy c starts stimuli log i j)

-- what holds of the log of a machine that began so
pub record LawfulLog (c : Setting) (starts : List Words) (stimuli log : List Message) : Type 0 where
  pub in_order : sorted message_before log ≡ true
  pub least_in_turn : (i : ℕ) → i < length log → least message_before (after c starts stimuli i).pending ≡ Some (line log i)
  pub caused : (i : ℕ) → i < length log → Caused c starts stimuli log i

-- no line comes before one that stands in front of it
abbrev pub LogInOrder : Type 0
LogInOrder = (c : Setting) (starts : List Words) (stimuli : List Message) (n : ℕ) → sorted message_before (after c starts stimuli n).log ≡ true

-- line i is the least of what is pending after i steps
abbrev pub EachLineWasLeast : Type 0
EachLineWasLeast = (c : Setting) (starts : List Words) (stimuli : List Message) (n i : ℕ) → i < length (after c starts stimuli n).log → least message_before (after c starts stimuli i).pending ≡ Some (line (after c starts stimuli n).log i)

-- no line comes from nowhere
abbrev pub EachLineHasACause : Type 0
EachLineHasACause = (c : Setting) (starts : List Words) (stimuli : List Message) (n i : ℕ) → i < length (after c starts stimuli n).log → Caused c starts stimuli (after c starts stimuli n).log i

-- with nothing pending the machine has come to its end
abbrev pub NothingPendingIsTheEnd : Type 0
NothingPendingIsTheEnd = (c : Setting) (starts : List Words) (stimuli : List Message) (n k : ℕ) → (after c starts stimuli n).pending ≡ [] → after c starts stimuli (n + k) ≡ after c starts stimuli n

-- A run of the machine over lent memory: where it is after n steps, and when it ends.
use Rattle.std.specs.Prelude.{ℕ, zero, suc, min, cond, List, length, take, Some, None, Ok, Err, Option, Result, nat_le}
use Rattle.rows.specs.Rows.{least, in_front}
use Rattle.bus.specs.declared.Message.{Message}
use Rattle.bus.specs.declared.Words.{Words}
use Rattle.bus.specs.Order.{message_before}
use Rattle.bus.specs.Reactions.{Rule}
use Rattle.sequential.specs.declared.outcome.Ended.{Ended}
use Rattle.sequential.specs.declared.outcome.Ended.TheVariants.{NothingPending, LogFull, PendingFull}
use Rattle.addressing.specs.Settings.{Setting, boards_of}
use Rattle.sequential.specs.Sequential.{Machine}
use Rattle.sequential.specs.Laws.{after}

abbrev pub setting_of : List Rule → ℕ → Setting
setting_of rules end = record { rules = rules; end = end }

-- the start words of the boards that there are
abbrev pub starts_of : List Rule → ℕ → List Words → List Words
starts_of rules end starts = take (boards_of (setting_of rules end)) starts

-- the machine n steps after it began with these start words and stimuli
abbrev pub ran : List Rule → ℕ → List Words → List Message → ℕ → Machine
ran rules end starts stimuli n = after (setting_of rules end) (starts_of rules end starts) stimuli n

-- The memory of pending messages after n steps from its first `count` messages on: each step puts what is pending in front,
-- and leaves what lies behind as it was.
abbrev pub pending_memory : List Rule → ℕ → List Words → List Message → ℕ → ℕ → List Message
pending_memory rules end starts memory count zero = memory
pending_memory rules end starts memory count (suc n) = in_front (ran rules end starts (take count memory) (suc n)).pending (pending_memory rules end starts memory count n)

-- the most lines that one run writes into a log memory of so many places: as each sends at most two messages, all numbers fit 32 bits
abbrev pub most_lines : ℕ → ℕ
most_lines places = min places 1000000000

abbrev pub next_or : ℕ → ℕ → ℕ → ℕ → Option Message → Result Message Ended
next_or places lines n held None = Err NothingPending
next_or places lines n held (Some x) = cond (nat_le lines n) (Err LogFull) (cond (nat_le places held) (Err PendingFull) (Ok x))

-- What comes after n lines: the least pending message; or why the run ends there. It ends where nothing is pending,
-- where so many lines are written, and where the memory of so many places is full of pending messages, since a step takes one and may add two.
abbrev pub next_of : ℕ → ℕ → ℕ → List Message → Result Message Ended
next_of places lines n pending = next_or places lines n (length pending) (least message_before pending)

abbrev pub next_in : ℕ → ℕ → Machine → Result Message Ended
next_in places lines m = next_of places lines (length m.log) m.pending

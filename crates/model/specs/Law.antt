-- The law of runs: whatever calls a started bench gets, what it has committed is what the sequential machine logs.
use Rattle.std.specs.Prelude.{◌≡◌, ℕ, ◌+◌, ◌<◌, true, List, [], ◌∷◌, length, slice_index, slice_index_or}
use Rattle.std.specs.List.{AllByRecursion}
use Rattle.bus.specs.declared.Message.{Message}
use Rattle.bus.specs.declared.Words.{Words}
use Rattle.bus.specs.Order.{message_before}
use Rattle.bus.specs.Reactions.{zeros}
use Rattle.savers.specs.Rows.{Row}
use Rattle.addressing.specs.Settings.{Setting, boards_of}
use Rattle.sequential.specs.Sequential.{Machine, fresh, steps}
use Rattle.model.specs.declared.call.Call.{Call}
use Rattle.model.specs.State.{State, Answer, started, standing, at_board, row_at}
use Rattle.model.specs.Outlook.{outstanding}
use Rattle.model.specs.Perform.{after, answers, lines, total, runs_of, undone_of, stimuli}

-- the rows of a rack as set-up leaves it: in each of the first savers the start words alone
abbrev pub SetUp : Setting → List Words → List Row → Type 0
SetUp c starts rows =
    (length rows ≡ length c.rules) × (length starts ≡ boards_of c)
    × ((k : ℕ) → k < boards_of c → slice_index_or rows k [] ≡ slice_index_or starts k zeros ∷ [])

-- a state to which a set-up and some calls lead
pub record Reached (c : Setting) (s : State) : Type 0 where
  pub starts : List Words
  pub rows : List Row
  pub calls : List Call
  pub set_up : SetUp c starts rows
  pub by_calls : after c (started rows) calls ≡ s

-- a run: its setting, the boards' start words, the rows of the started rack, and the calls
module _ (c : Setting) (starts : List Words) (rows : List Row) (calls : List Call) where
  -- the state that the calls leave
  abbrev pub bench : State
  bench = after c (started rows) calls

  -- what the calls answered
  abbrev pub told : List Answer
  told = answers c (started rows) calls

  -- the lines that they committed
  abbrev pub log : List Message
  log = lines told

  -- the sequential machine on the admitted stimuli, after as many steps as there are lines
  abbrev pub machine : Machine
  machine = steps c (length log) (fresh c starts (stimuli c (started rows) calls))

  pub record Lawful : Type 0 where
    pub committed_lines_are_the_sequential_log : log ≡ machine.log
    pub outstanding_comes_after_every_line : AllByRecursion (λ m. AllByRecursion (λ l. message_before l m ≡ true) log) (outstanding bench)
    pub nothing_left_is_nothing_pending : outstanding bench ≡ [] → standing bench ≡ [] → machine.pending ≡ []
    pub runs_are_committed_standing_or_undone : total runs_of told ≡ length log + length (standing bench) + total undone_of told
    pub counters_tell_runs_lines_and_undone : (bench.counters.runs ≡ total runs_of told) × (bench.counters.committed ≡ length log) × (bench.counters.undone ≡ total undone_of told)
    pub saved_starts_are_the_machines_words : (k : ℕ) → k < boards_of c → slice_index_or (row_at bench k) 0 zeros ≡ slice_index_or machine.words k zeros
    pub committed_sends_are_the_machines : (k : ℕ) → k < boards_of c → (at_board bench k).sent ≡ slice_index machine.sent k

-- for every setting, all start words and every list of calls
abbrev pub CommittedLinesAreTheSequentialLog : Type 0
CommittedLinesAreTheSequentialLog = (c : Setting) (starts : List Words) (rows : List Row) → SetUp c starts rows → (calls : List Call) → Lawful c starts rows calls

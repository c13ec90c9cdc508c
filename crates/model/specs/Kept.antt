-- What every bench keeps to which a set-up and calls lead: its rows are in order, and it stays in its bounds.
use Rattle.std.specs.Prelude.{◌≡◌, ℕ, ◌*◌, ◌≤◌, true, ◌⊎◌, List, ◌++◌, length}
use Rattle.std.specs.List.{AllByRecursion}
use Rattle.rows.specs.Rows.{sorted, count_of}
use Rattle.bus.specs.declared.Message.{Message}
use Rattle.bus.specs.Order.{message_before}
use Rattle.addressing.specs.Settings.{Setting}
use Rattle.model.specs.State.{Event, Queues, State, standing_of, issued, at_board}
use Rattle.model.specs.Deliver.{room}
use Rattle.model.specs.Law.{Reached}

-- the messages that stand at a board, and then the open ones
abbrev pub in_row : Queues → List Message
in_row q = standing_of q ++ q.open_ones

pub record RowsInOrder (q : Queues) : Type 0 where
  pub in_row_is_sorted : sorted message_before (in_row q) ≡ true
  pub early_ones_are_sorted : sorted message_before q.early ≡ true
  pub no_message_is_in_both : (m : Message) → (count_of message_before m (in_row q) ≡ 0) ⊎ (count_of message_before m q.early ≡ 0)

abbrev pub ReachedBenchesKeepTheirRowsInOrder : Type 0
ReachedBenchesKeepTheirRowsInOrder = (c : Setting) (s : State) → Reached c s → (k : ℕ) → RowsInOrder (at_board s k)

-- the numbers of messages, which are below what a board has issued, fit 32 bits
pub record InBounds (s : State) : Type 0 where
  pub a_board_holds_32_at_most : (k : ℕ) → room (at_board s k) ≤ 32
  pub transit_holds_128_at_most : length s.transit ≤ 128
  pub an_event_sends_two_at_most : (k : ℕ) → AllByRecursion (λ (e : Event). length e.sends ≤ 2) (at_board s k).standing
  pub a_board_issues_two_a_run_at_most : (k : ℕ) → issued (at_board s k) ≤ 2 * s.counters.runs
  pub runs_are_a_billion_at_most : s.counters.runs ≤ 1000000000
  pub offers_are_65536_at_most : s.counters.offers ≤ 65536

abbrev pub ReachedBenchesStayInBounds : Type 0
ReachedBenchesStayInBounds = (c : Setting) (s : State) → Reached c s → InBounds s

-- A commit, line by line: each turn writes the least first message that stands, while it is final.
use Rattle.std.specs.Prelude.{ℕ, zero, suc, ◌+◌, cond, List, [], ◌∷◌, ◌++◌, Some, None, Option, slice_set}
use Rattle.bus.specs.declared.Message.{Message}
use Rattle.bus.specs.Order.{message_before}
use Rattle.savers.specs.Rows.{row_forgot}
use Rattle.model.specs.declared.front.Front.{Front}
use Rattle.model.specs.State.{Event, Queues, State, Answer, committed, at_board, row_at, more_committed}
use Rattle.model.specs.Outlook.{outlook}
use Rattle.model.specs.Commit.{shed, is_final}

abbrev pub first_event : List Event → Option Message
first_event [] = None
first_event (e ∷ es) = Some e.message

-- the first message that stands at a board
abbrev pub front_of : Queues → Option Message
front_of q = first_event q.standing

-- the front of board k, if there is one, or that of a later board, if its message is before
abbrev pub nearer_front : ℕ → Option Message → Option Front → Option Front
nearer_front k None rest = rest
nearer_front k (Some m) None = Some (record { board = k; message = m })
nearer_front k (Some m) (Some f) = cond (message_before f.message m) (Some f) (Some (record { board = k; message = m }))

-- the least front of the boards, the first of which is board k
abbrev pub soonest : ℕ → List Queues → Option Front
soonest k [] = None
soonest k (q ∷ qs) = nearer_front k (front_of q) (soonest (k + 1) qs)

-- the next line, if it is final before the outlook
abbrev pub final_front : Option Message → Option Front → Option Front
final_front o None = None
final_front o (Some f) = cond (is_final o f.message) (Some f) None

abbrev pub next_line : Option Message → State → Option Front
next_line o s = final_front o (soonest 0 s.boards)

-- one line is written: the board gives up its first event, and its saver forgets it
abbrev pub shed_one : State → Front → State
shed_one s f = record {
  rows = slice_set s.rows f.board (row_forgot (row_at s f.board) 1);
  boards = slice_set s.boards f.board (shed 1 (at_board s f.board));
  transit = s.transit;
  counters = more_committed 1 s.counters;
  last = Some f.message;
}

abbrev pub after_line : State → Option Front → State
after_line s None = s
after_line s (Some f) = shed_one s f

abbrev pub line_of : Option Front → List Message
line_of None = []
line_of (Some f) = f.message ∷ []

-- so many turns, each of which writes the next line if there is one
abbrev pub state_after : Option Message → ℕ → State → State
state_after o zero s = s
state_after o (suc n) s = state_after o n (after_line s (next_line o s))

abbrev pub lines_after : Option Message → ℕ → State → List Message
lines_after o zero s = []
lines_after o (suc n) s = line_of (next_line o s) ++ lines_after o n (after_line s (next_line o s))

abbrev pub commit_turns : State → ℕ → State × Answer
commit_turns s most = (state_after (outlook s) most s, committed (lines_after (outlook s) most s))

-- Commit: the first final messages become lines of the log.
use Rattle.std.specs.Prelude.{ℕ, ◌+◌, Bool, true, cond, List, [], ◌∷◌, length, take, drop, Some, None, Option, nat_eq}
use Rattle.rows.specs.Rows.{insert}
use Rattle.bus.specs.declared.Message.{Message}
use Rattle.bus.specs.Order.{message_before}
use Rattle.savers.specs.Rows.{Row}
use Rattle.model.specs.State.{Queues, State, Answer, committed, sends_of, standing, more_committed}
use Rattle.model.specs.Outlook.{outlook}

abbrev pub filter : {A : Type 0} → (A → Bool) → List A → List A
filter f [] = []
filter f (x ∷ xs) = cond (f x) (x ∷ filter f xs) (filter f xs)

-- messages in their order
abbrev pub in_order : List Message → List Message
in_order [] = []
in_order (x ∷ xs) = insert message_before x (in_order xs)

-- a standing message is final when nothing outstanding can come before it
abbrev pub is_final : Option Message → Message → Bool
is_final None m = true
is_final (Some o) m = message_before m o

abbrev pub finals : State → List Message
finals s = filter (is_final (outlook s)) (standing s)

-- how many of the lines are board k's
abbrev pub share : ℕ → List Message → ℕ
share k ls = length (filter (λ (l : Message). nat_eq l.destination k) ls)

-- the first events leave the in-row, and their sends the out-row
abbrev pub shed : ℕ → Queues → Queues
shed n q = record { standing = drop n q.standing; open_ones = q.open_ones; early = q.early; sent = q.sent + length (sends_of (take n q.standing)) }

-- each board from k on gives up exactly its own lines
abbrev pub shed_from : ℕ → List Message → List Queues → List Queues
shed_from k ls [] = []
shed_from k ls (q ∷ qs) = shed (share k ls) q ∷ shed_from (k + 1) ls qs

-- and each saver forgets them
abbrev pub forget_from : ℕ → List Message → List Row → List Row
forget_from k ls [] = []
forget_from k ls (r ∷ rs) = drop (share k ls) r ∷ forget_from (k + 1) ls rs

-- the last line, once these are written
abbrev pub last_line : Option Message → List Message → Option Message
last_line o [] = o
last_line o (l ∷ ls) = last_line (Some l) ls

-- the lines of a commit: the least of the final messages, in order, as many as fit
abbrev pub lines_of_commit : State → ℕ → List Message
lines_of_commit s most = take most (in_order (finals s))

abbrev pub commit : State → ℕ → State × Answer
commit s most =
    let ls = lines_of_commit s most in (
      record {
        rows = forget_from 0 ls s.rows;
        boards = shed_from 0 ls s.boards;
        transit = s.transit;
        counters = more_committed (length ls) s.counters;
        last = last_line s.last ls;
      },
      committed ls,
    )

-- The state of a running bench, and its changes.
use Rattle.std.specs.Prelude.{ℕ, ◌+◌, List, [], ◌∷◌, ◌++◌, map, length, replicate, None, Option, slice_index_or, slice_set}
use Rattle.bus.specs.declared.Message.{Message}
use Rattle.savers.specs.Rows.{Row}
use Rattle.model.specs.declared.item.Item.{Item}
use Rattle.model.specs.declared.item.Item.TheVariants.{Plus, Minus}
use Rattle.model.specs.declared.refusal.Refusal.{Refusal}

-- a reaction that stands (it was made, and neither undone nor committed), with the messages that it sent
pub record Event : Type 0 where
  pub message : Message
  pub sends : List Message

-- What waits at one board. Its in-row is the standing events' messages and then the open ones, to which it has not reacted;
-- its out-row is what the standing events sent. Early are anti-messages whose message has not come yet.
-- Last, how many messages the committed events sent.
pub record Queues : Type 0 where
  pub standing : List Event
  pub open_ones : List Message
  pub early : List Message
  pub sent : ℕ

-- how many offers were admitted and runs accepted, lines committed and events undone
pub record Counters : Type 0 where
  pub offers : ℕ
  pub runs : ℕ
  pub committed : ℕ
  pub undone : ℕ

-- the rows of the rack's savers, what waits at the eight boards, what is in transit, the oldest first, the counters, and the last committed line
pub record State : Type 0 where
  pub rows : List Row
  pub boards : List Queues
  pub transit : List Item
  pub counters : Counters
  pub last : Option Message

-- what a call answers; a commit answers the lines that it writes
pub data Answer : Type 0 where
  refused : Refusal → Answer
  offered : ℕ → Answer
  delivered : ℕ → Answer
  ran : ℕ → Answer
  looked : Option Message → Answer
  committed : List Message → Answer

-- ---- parts of a state

abbrev pub no_queues : Queues
no_queues = record { standing = []; open_ones = []; early = []; sent = 0 }

-- the message of an item
abbrev pub inside : Item → Message
inside (Plus m) = m
inside (Minus m) = m

-- lists one after the other
abbrev pub flat : {A : Type 0} → List (List A) → List A
flat [] = []
flat (xs ∷ xss) = xs ++ flat xss

abbrev pub standing_of : Queues → List Message
standing_of q = map (λ (e : Event). e.message) q.standing

-- what some events sent, in order
abbrev pub sends_of : List Event → List Message
sends_of es = flat (map (λ (e : Event). e.sends) es)

-- how many messages the committed and the standing events of a board sent
abbrev pub issued : Queues → ℕ
issued q = q.sent + length (sends_of q.standing)

-- all that stands, over all boards
abbrev pub standing : State → List Message
standing s = flat (map standing_of s.boards)

abbrev pub at_board : State → ℕ → Queues
at_board s k = slice_index_or s.boards k no_queues

abbrev pub row_at : State → ℕ → Row
row_at s k = slice_index_or s.rows k []

-- ---- changes of a state

-- board k has these queues, and its saver this row
abbrev pub with_board : ℕ → Queues → Row → State → State
with_board k q row s = record { rows = slice_set s.rows k row; boards = slice_set s.boards k q; transit = s.transit; counters = s.counters; last = s.last }

abbrev pub with_transit : List Item → State → State
with_transit items s = record { rows = s.rows; boards = s.boards; transit = items; counters = s.counters; last = s.last }

abbrev pub with_counters : Counters → State → State
with_counters c s = record { rows = s.rows; boards = s.boards; transit = s.transit; counters = c; last = s.last }

-- one more offer, one more run, so many more undone, so many more committed
abbrev pub one_offer : Counters → Counters
one_offer c = record { offers = c.offers + 1; runs = c.runs; committed = c.committed; undone = c.undone }

abbrev pub one_run : Counters → Counters
one_run c = record { offers = c.offers; runs = c.runs + 1; committed = c.committed; undone = c.undone }

abbrev pub more_undone : ℕ → Counters → Counters
more_undone n c = record { offers = c.offers; runs = c.runs; committed = c.committed; undone = c.undone + n }

abbrev pub more_committed : ℕ → Counters → Counters
more_committed n c = record { offers = c.offers; runs = c.runs; committed = c.committed + n; undone = c.undone }

-- a bench as start leaves it, with the rows that its savers begin with
abbrev pub started : List Row → State
started rows = record {
  rows = rows;
  boards = replicate 8 no_queues;
  transit = [];
  counters = record { offers = 0; runs = 0; committed = 0; undone = 0 };
  last = None;
}

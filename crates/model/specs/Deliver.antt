-- Deliver: an item in transit goes to its destination, where it may undo events (a rollback).
use Rattle.std.specs.Prelude.{ℕ, ◌+◌, ◌-◌, Bool, true, false, cond, ◌&&◌, List, [], ◌∷◌, ◌++◌, map, length, take, drop, nat_le, nat_lt, slice_index_or}
use Rattle.rows.specs.Rows.{insert, without, without_one}
use Rattle.bus.specs.declared.Message.{Message}
use Rattle.bus.specs.Order.{message_before}
use Rattle.model.specs.declared.item.Item.{Item}
use Rattle.model.specs.declared.item.Item.TheVariants.{Plus, Minus}
use Rattle.model.specs.declared.refusal.Refusal.TheVariants.{NoItem, BoardFull, TransitFull}
use Rattle.model.specs.State.{Event, Queues, State, Answer, refused, delivered, inside, standing_of, sends_of, at_board, row_at, with_board, with_transit, with_counters, more_undone}
use Rattle.model.specs.Offer.{stimulus}
use Rattle.rows.specs.Order.{same}

-- whether a list has a message
abbrev pub has : Message → List Message → Bool
has m [] = false
has m (x ∷ xs) = cond (same message_before m x) true (has m xs)

-- how many standing events are not after m
abbrev pub not_after : Message → List Event → ℕ
not_after m [] = 0
not_after m (e ∷ es) = cond (message_before m e.message) 0 (not_after m es + 1)

-- only so many standing events stay; the messages of the others are open again
abbrev pub undo : ℕ → Queues → Queues
undo stay q = record {
  standing = take stay q.standing;
  open_ones = map (λ (e : Event). e.message) (drop stay q.standing) ++ q.open_ones;
  early = q.early;
  sent = q.sent;
}

abbrev pub with_open : List Message → Queues → Queues
with_open xs q = record { standing = q.standing; open_ones = xs; early = q.early; sent = q.sent }

abbrev pub with_early : List Message → Queues → Queues
with_early xs q = record { standing = q.standing; open_ones = q.open_ones; early = xs; sent = q.sent }

-- what an arrival does to a board: how many standing events stay, whether it needs a place, and the queues after
pub record Arrival : Type 0 where
  pub stay : ℕ
  pub needs_place : Bool
  pub queues : Queues

-- A plus with an equal early minus vanishes with it; another is put into the in-row, and every standing message after it is undone.
-- A minus takes the last of its equals in the in-row: an open one, or one that stands, which is undone first with all after it. Another minus is early.
abbrev pub arrive : Item → Queues → Arrival
arrive (Plus m) q =
    cond (has m q.early)
    (record { stay = length q.standing; needs_place = false; queues = with_early (without_one message_before m q.early) q })
    (let p = not_after m q.standing in
    let u = undo p q in
    record { stay = p; needs_place = true; queues = with_open (insert message_before m u.open_ones) u })
arrive (Minus m) q =
    cond (has m q.open_ones)
    (record { stay = length q.standing; needs_place = false; queues = with_open (without_one message_before m q.open_ones) q })
    (cond (has m (standing_of q))
    (let p = not_after m q.standing - 1 in
    let u = undo p q in
    record { stay = p; needs_place = false; queues = with_open (without_one message_before m u.open_ones) u })
    (record { stay = length q.standing; needs_place = true; queues = with_early (insert message_before m q.early) q }))

-- how many places of a board are taken
abbrev pub room : Queues → ℕ
room q = length q.standing + length q.open_ones + length q.early

-- what a read past the end of transit gives
abbrev pub no_message : Message
no_message = stimulus 0 0 0 0 0

-- the saver goes back to the events that stay, and what the undone ones sent goes back into transit as anti-messages
abbrev pub deliver_item : State → ℕ → Item → State × Answer
deliver_item s i item =
    let k = (inside item).destination in
    let q = at_board s k in
    let a = arrive item q in
    let back = sends_of (drop a.stay q.standing) in
    let count = length q.standing - a.stay in
    cond (nat_le (length s.transit) i) (s, refused NoItem)
    (cond (a.needs_place && nat_le 32 (room q)) (s, refused BoardFull)
    (cond (nat_lt 128 (length s.transit - 1 + length back)) (s, refused TransitFull) (
      with_counters (more_undone count s.counters)
          (with_transit (without i s.transit ++ map Minus back)
          (with_board k a.queues (take (a.stay + 1) (row_at s k)) s)),
      delivered count,
    )))

abbrev pub deliver : State → ℕ → State × Answer
deliver s i = deliver_item s i (slice_index_or s.transit i (Plus no_message))

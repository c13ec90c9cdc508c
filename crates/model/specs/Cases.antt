-- A worked case: a message that is equal to the last one that stands.
use Rattle.std.specs.Prelude.{◌≡◌, true, false, List, [], ◌∷◌, ◌++◌, length}
use Rattle.rows.specs.Rows.{sorted}
use Rattle.bus.specs.Order.{message_before}
use Rattle.model.specs.declared.item.Item.TheVariants.{Plus, Minus}
use Rattle.model.specs.State.{Event, Queues}
use Rattle.model.specs.Deliver.{arrive, has, with_open}
use Rattle.model.specs.Kept.{in_row}

-- a board on which e stands last, and whose message is neither open nor early
pub record StandsLast (q : Queues) (e : Event) : Type 0 where
  pub others : List Event
  pub last : q.standing ≡ others ++ e ∷ []
  pub in_order : sorted message_before (in_row q) ≡ true
  pub not_early : has e.message q.early ≡ false
  pub not_open : has e.message q.open_ones ≡ false

-- An equal message becomes open and undoes nothing; the anti-message then takes the open one, and nothing is undone.
abbrev pub AnEqualOfTheLastStandingMessageBecomesOpen : Type 0
AnEqualOfTheLastStandingMessageBecomesOpen =
    (q : Queues) (e : Event) → StandsLast q e →
    (arrive (Plus e.message) q ≡ record { stay = length q.standing; needs_place = true; queues = with_open (e.message ∷ q.open_ones) q })
    × (arrive (Minus e.message) (with_open (e.message ∷ q.open_ones) q) ≡ record { stay = length q.standing; needs_place = false; queues = q })

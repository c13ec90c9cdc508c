-- Offer: a stimulus joins transit.
use Rattle.std.specs.Prelude.{ℕ, cond, [], ◌∷◌, ◌++◌, length, Some, None, Option, nat_le, nat_lt}
use Rattle.bus.specs.declared.Message.{Message}
use Rattle.bus.specs.Kinds.{outside}
use Rattle.addressing.specs.Settings.{Setting, boards_of}
use Rattle.model.specs.declared.item.Item.TheVariants.{Plus}
use Rattle.model.specs.declared.refusal.Refusal.TheVariants.{NoBoard, PastEnd, BeforeLastLine, OffersSpent, TransitFull}
use Rattle.model.specs.State.{State, Answer, refused, offered, with_transit, with_counters, one_offer}

-- a message from outside
abbrev pub stimulus : ℕ → ℕ → ℕ → ℕ → ℕ → Message
stimulus number time destination kind payload =
    record { time = time; source = outside; number = number; destination = destination; kind = kind; payload = payload }

-- the time of the last committed line; 0 if there is none
abbrev pub line_time : Option Message → ℕ
line_time None = 0
line_time (Some l) = l.time

abbrev pub offer : Setting → State → ℕ → ℕ → ℕ → ℕ → State × Answer
offer c s time destination kind payload =
    cond (nat_le (boards_of c) destination) (s, refused NoBoard)
    (cond (nat_lt c.end time) (s, refused PastEnd)
    (cond (nat_lt time (line_time s.last)) (s, refused BeforeLastLine)
    (cond (nat_le 65536 s.counters.offers) (s, refused OffersSpent)
    (cond (nat_le 128 (length s.transit)) (s, refused TransitFull) (
      with_counters (one_offer s.counters) (with_transit (s.transit ++ Plus (stimulus s.counters.offers time destination kind payload) ∷ []) s),
      offered s.counters.offers,
    )))))

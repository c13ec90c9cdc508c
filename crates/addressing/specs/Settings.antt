-- What all runs of one bench share, and what the sends of its boards become on the bus.
use Rattle.std.specs.Prelude.{ℕ, ◌+◌, min, Bool, cond, ◌&&◌, List, [], ◌∷◌, length, take, nat_le, nat_lt, slice_index_or}
use Rattle.bus.specs.declared.Message.{Message}
use Rattle.bus.specs.declared.Send.{Send}
use Rattle.bus.specs.Reactions.{Rule, unmoved}

-- a rule for each saver of the rack, and the end time
pub record Setting : Type 0 where
  pub rules : List Rule
  pub end : ℕ

-- how many boards there are: the savers of the rack, or 8 if more
abbrev pub boards_of : Setting → ℕ
boards_of c = min (length c.rules) 8

-- how the board at address k reacts; where no board is, nothing moves
abbrev pub rule_of : Setting → ℕ → Rule
rule_of c k = slice_index_or (take 8 c.rules) k unmoved

-- whether a send at time t goes to one of so many boards, and arrives by the end time
abbrev pub passes : ℕ → ℕ → ℕ → Send → Bool
passes boards end t x = nat_lt x.address boards && nat_le (t + 1 + x.lag) end

-- the message that a send of board k at time t becomes as its number n
abbrev pub as_message : ℕ → ℕ → ℕ → Send → Message
as_message k t n x = record { time = t + 1 + x.lag; source = k; number = n; destination = x.address; kind = x.kind; payload = x.payload }

-- the messages that sends become, numbered from n; one that does not pass is dropped, and takes no number
abbrev pub addressed_in : ℕ → ℕ → ℕ → ℕ → ℕ → List Send → List Message
addressed_in boards end k t n [] = []
addressed_in boards end k t n (x ∷ xs) =
    cond (passes boards end t x)
    (as_message k t n x ∷ addressed_in boards end k t (n + 1) xs)
    (addressed_in boards end k t n xs)

abbrev pub addressed : Setting → ℕ → ℕ → ℕ → List Send → List Message
addressed c k t n xs = addressed_in (boards_of c) c.end k t n xs

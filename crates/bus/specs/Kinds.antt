-- The kinds of messages that boards know, and the source that is no board. Other kinds are allowed.
use Rattle.std.specs.Prelude.{ℕ}

-- a ticker's own call
abbrev pub tick : ℕ
tick = 1

-- a card was held to a reader
abbrev pub card : ℕ
card = 2

-- a reader asks about a card
abbrev pub inquiry : ℕ
inquiry = 3

-- the answer to an inquiry
abbrev pub verdict : ℕ
verdict = 4

-- a ticker has counted
abbrev pub beat : ℕ
beat = 5

-- the source of a message that comes from outside the bus
abbrev pub outside : ℕ
outside = 255

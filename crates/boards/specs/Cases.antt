-- Worked cases of the boards' rules. What a case leaves open holds of every value.
use Rattle.std.specs.Prelude.{◌≡◌, ℕ}
use Rattle.bus.specs.declared.Message.{Message}
use Rattle.bus.specs.declared.Words.{Words}
use Rattle.bus.specs.declared.Send.{Send}
use Rattle.bus.specs.Reactions.{Sends, Rule}
use Rattle.bus.specs.declared.up_to_two.UpToTwo.TheVariants.{Nothing, One, Two}
use Rattle.bus.specs.Kinds as kinds
use Rattle.boards.specs.Ticker.{ticker_rule}
use Rattle.boards.specs.Reader.{reader_rule}
use Rattle.boards.specs.FareComputer.{fare_computer_rule}

abbrev words : ℕ → ℕ → ℕ → ℕ → Words
words a b c d = record { w0 = a; w1 = b; w2 = c; w3 = d }

abbrev send : ℕ → ℕ → ℕ → ℕ → Send
send address lag kind payload = record { address = address; lag = lag; kind = kind; payload = payload }

abbrev message : ℕ → ℕ → ℕ → ℕ → ℕ → ℕ → Message
message time source number destination kind payload =
    record { time = time; source = source; number = number; destination = destination; kind = kind; payload = payload }

-- what a rule makes of these words and a message
abbrev Makes : Rule → Words → Message → Words → Sends → Type 0
Makes rule w m w' s = rule w m ≡ record { words = w'; sends = s }

-- a tick at 100 to address 2
abbrev pub TickSendsBeatAndNextTick : Type 0
TickSendsBeatAndNextTick =
    (source number payload : ℕ)
    → Makes ticker_rule (words 4 1 0 9) (message 100 source number 2 kinds.tick payload)
    (words 4 0 0 10) (Two (send 0 0 kinds.beat 10) (send 2 4 kinds.tick 0))

-- a card 77
abbrev pub CardSendsInquiry : Type 0
CardSendsInquiry =
    (time source number destination : ℕ)
    → Makes reader_rule (words 0 9 3 4) (message time source number destination kinds.card 77)
    (words 1 77 3 4) (One (send 0 4 kinds.inquiry 77))

-- a verdict 2
abbrev pub EvenVerdictCountsAsRefused : Type 0
EvenVerdictCountsAsRefused =
    (time source number destination : ℕ)
    → Makes reader_rule (words 1 77 0 0) (message time source number destination kinds.verdict 2) (words 0 77 0 1) Nothing

-- a card 5
abbrev pub CardIsIgnoredWhileWaiting : Type 0
CardIsIgnoredWhileWaiting =
    (time source number destination : ℕ)
    → Makes reader_rule (words 1 77 0 0) (message time source number destination kinds.card 5) (words 1 77 0 0) Nothing

-- an inquiry 77 from address 1 at 20
abbrev pub SameCardGetsVerdictZero : Type 0
SameCardGetsVerdictZero =
    (number destination : ℕ)
    → Makes fare_computer_rule (words 77 1 0 0) (message 20 1 number destination kinds.inquiry 77)
    (words 77 2 0 0) (One (send 1 2 kinds.verdict 0))

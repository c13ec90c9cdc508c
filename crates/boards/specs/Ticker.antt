-- The ticker's rule. Its words are period, left, address and count.
use Rattle.std.specs.Prelude.{ℕ, ◌-◌, ◌%◌, cond, nat_lt}
use Rattle.bus.specs.declared.Message.{Message}
use Rattle.bus.specs.declared.Words.{Words}
use Rattle.bus.specs.declared.Send.{Send}
use Rattle.bus.specs.declared.up_to_two.UpToTwo.TheVariants.{One, Two}
use Rattle.bus.specs.Reactions.{Rule, unmoved}
use Rattle.boards.specs.declared.ticker.Ticker.{Ticker}
use Rattle.bus.specs.Kinds as kinds
use Rattle.boards.specs.Kinds.{is}
use Rattle.boards.specs.Counts.{raised}

abbrev pub ticker_state : Ticker → Words
ticker_state t = record { w0 = t.period; w1 = t.left; w2 = t.address; w3 = t.count }

abbrev period : Words → ℕ
period w = w.w0

abbrev left : Words → ℕ
left w = w.w1

abbrev address : Words → ℕ
address w = w.w2

abbrev count : Words → ℕ
count w = w.w3

-- the new count, told at once
abbrev beat : Words → Send
beat w = record { address = address w % 256; lag = 0; kind = kinds.beat; payload = raised (count w) }

-- to the ticker itself, a period later
abbrev next_tick : Words → Message → Send
next_tick w m = record { address = m.destination; lag = period w % 65536; kind = kinds.tick; payload = 0 }

-- a tick while some are left, and when none is
abbrev ticks_on : Rule
ticks_on w m = record {
  words = record { w0 = period w; w1 = left w - 1; w2 = address w; w3 = raised (count w) };
  sends = Two (beat w) (next_tick w m);
}

abbrev ticks_last : Rule
ticks_last w m = record {
  words = record { w0 = period w; w1 = left w; w2 = address w; w3 = raised (count w) };
  sends = One (beat w);
}

abbrev pub ticker_rule : Rule
ticker_rule w m = cond (is m kinds.tick) (cond (nat_lt 0 (left w)) (ticks_on w m) (ticks_last w m)) (unmoved w m)

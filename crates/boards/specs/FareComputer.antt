-- The fare computer's rule. Its words are last, inquiries, beats and spare.
use Rattle.std.specs.Prelude.{ℕ, cond, ◌==◌}
use Rattle.bus.specs.declared.Message.{Message}
use Rattle.bus.specs.declared.Words.{Words}
use Rattle.bus.specs.declared.Send.{Send}
use Rattle.bus.specs.declared.up_to_two.UpToTwo.TheVariants.{Nothing, One}
use Rattle.bus.specs.Reactions.{Rule, unmoved}
use Rattle.boards.specs.declared.fare_computer.FareComputer.{FareComputer}
use Rattle.bus.specs.Kinds as kinds
use Rattle.boards.specs.Kinds.{is}
use Rattle.boards.specs.Counts.{raised}

abbrev pub fare_computer_state : FareComputer → Words
fare_computer_state f = record { w0 = f.last; w1 = f.inquiries; w2 = f.beats; w3 = f.spare }

abbrev last : Words → ℕ
last w = w.w0

abbrev inquiries : Words → ℕ
inquiries w = w.w1

abbrev beats : Words → ℕ
beats w = w.w2

abbrev spare : Words → ℕ
spare w = w.w3

-- 0 for the card that was asked about last, 1 for any other
abbrev verdict : Words → Message → Send
verdict w m = record { address = m.source; lag = 2; kind = kinds.verdict; payload = cond (m.payload == last w) 0 1 }

abbrev judges : Rule
judges w m = record {
  words = record { w0 = m.payload; w1 = raised (inquiries w); w2 = beats w; w3 = spare w };
  sends = One (verdict w m);
}

abbrev hears_beat : Rule
hears_beat w m = record {
  words = record { w0 = last w; w1 = inquiries w; w2 = raised (beats w); w3 = spare w };
  sends = Nothing;
}

abbrev pub fare_computer_rule : Rule
fare_computer_rule w m = cond (is m kinds.inquiry) (judges w m) (cond (is m kinds.beat) (hears_beat w m) (unmoved w m))

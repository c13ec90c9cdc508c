-- The reader's rule. Its words are mode, card, accepted and refused. In mode 0 it takes a card, in mode 1 it waits for the verdict.
use Rattle.std.specs.Prelude.{ℕ, ◌%◌, Bool, cond, ◌&&◌, ◌==◌}
use Rattle.bus.specs.declared.Words.{Words}
use Rattle.bus.specs.declared.up_to_two.UpToTwo.TheVariants.{Nothing, One}
use Rattle.bus.specs.Reactions.{Rule, unmoved}
use Rattle.boards.specs.declared.reader.Reader.{Reader}
use Rattle.bus.specs.Kinds as kinds
use Rattle.boards.specs.Kinds.{is}
use Rattle.boards.specs.Counts.{raised}

abbrev pub reader_state : Reader → Words
reader_state r = record { w0 = r.mode; w1 = r.card; w2 = r.accepted; w3 = r.refused }

abbrev mode : Words → ℕ
mode w = w.w0

abbrev card : Words → ℕ
card w = w.w1

abbrev accepted : Words → ℕ
accepted w = w.w2

abbrev refused : Words → ℕ
refused w = w.w3

-- a card in mode 0
abbrev asks : Rule
asks w m = record {
  words = record { w0 = 1; w1 = m.payload; w2 = accepted w; w3 = refused w };
  sends = One (record { address = 0; lag = 4; kind = kinds.inquiry; payload = m.payload });
}

-- a verdict in mode 1: odd accepts, even refuses
abbrev counts : Rule
counts w m = record {
  words = cond (m.payload % 2 == 1)
      (record { w0 = 0; w1 = card w; w2 = raised (accepted w); w3 = refused w })
      (record { w0 = 0; w1 = card w; w2 = accepted w; w3 = raised (refused w) });
  sends = Nothing;
}

abbrev in_mode : Words → ℕ → Bool
in_mode w n = mode w == n

abbrev pub reader_rule : Rule
reader_rule w m =
    cond (in_mode w 0 && is m kinds.card) (asks w m)
    (cond (in_mode w 1 && is m kinds.verdict) (counts w m)
    (unmoved w m))

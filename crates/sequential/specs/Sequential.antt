-- The machine that takes one message after the other, always the least that is pending.
use Rattle.std.specs.Prelude.{ℕ, zero, suc, ◌+◌, List, [], ◌∷◌, ◌++◌, length, replicate, Some, None, Option, slice_index, slice_index_or, slice_set}
use Rattle.bus.specs.declared.Message.{Message}
use Rattle.bus.specs.declared.Words.{Words}
use Rattle.bus.specs.Order.{message_before}
use Rattle.bus.specs.Reactions.{Reaction, zeros, listed}
use Rattle.rows.specs.Rows.{least, without_one}
use Rattle.addressing.specs.Settings.{Setting, rule_of, addressed}

-- each board's words, how many messages each sent, what is pending, and what was taken
pub record Machine : Type 0 where
  pub words : List Words
  pub sent : List ℕ
  pub pending : List Message
  pub log : List Message

-- a machine before its first step
abbrev pub fresh : Setting → List Words → List Message → Machine
fresh c starts stimuli = record { words = starts; sent = replicate (length starts) 0; pending = stimuli; log = [] }

-- what a message's destination makes of it
abbrev pub reaction : Setting → Machine → Message → Reaction
reaction c m x = rule_of c x.destination (slice_index_or m.words x.destination zeros) x

-- the messages that a reaction sends
abbrev pub sending : Setting → Machine → Message → List Message
sending c m x = addressed c x.destination x.time (slice_index m.sent x.destination) (listed (reaction c m x).sends)

-- the machine once it has taken a message
abbrev pub advance : Setting → Machine → Message → Machine
advance c m x = record {
  words = slice_set m.words x.destination (reaction c m x).words;
  sent = slice_set m.sent x.destination (slice_index m.sent x.destination + length (sending c m x));
  pending = without_one message_before x m.pending ++ sending c m x;
  log = m.log ++ (x ∷ []);
}

-- with nothing pending a step does nothing
abbrev pub step_on : Setting → Machine → Option Message → Machine
step_on c m None = m
step_on c m (Some x) = advance c m x

abbrev pub step : Setting → Machine → Machine
step c m = step_on c m (least message_before m.pending)

abbrev pub steps : Setting → ℕ → Machine → Machine
steps c zero m = m
steps c (suc n) m = steps c n (step c m)

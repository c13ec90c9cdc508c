-- The text holds the refusals so far.
use Rattle.std.proofs.Common.{◌≡◌, ◌++◌, take, string_bytes}
use Rattle.oracle.specs.Texts.{refusals_from}
use Rattle.oracle.proofs.texts.add_refusals.Given as goal

abbrev pub invariant-loop-index : goal.invariant-loop-index
invariant-loop-index l = string_bytes l.text ≡ string_bytes l.initial.text ++ refusals_from l.end 0 (take l.index-counter l.calls)

-- The text so far and that of the outcomes to come, with what is left of the log, make the whole.
use Rattle.std.proofs.Common.{◌≡◌, ◌++◌, drop, string_bytes}
use Rattle.playing.specs.Outcomes.{outcomes_text}
use Rattle.playing.proofs.telling.add_outcomes.Given as goal

abbrev pub invariant-loop-index : goal.invariant-loop-index
invariant-loop-index l = string_bytes l.text ++ outcomes_text l.index (drop l.index l.outcomes) l.rest ≡ string_bytes l.initial.text ++ outcomes_text 0 l.outcomes l.log

-- The text so far and the numbers to come make the whole.
use Rattle.std.proofs.Common.{◌≡◌, ◌<◌, [], ◌∷◌, ◌++◌, length, string_bytes}
use Rattle.bus.specs.Lines.{spaced}
use Rattle.report.proofs.end_with.Given as goal

abbrev pub invariant-loop-rest : goal.invariant-loop-rest
invariant-loop-rest l = record {
  some : 0 < length l.rest;
  whole : string_bytes l.text ++ (spaced l.rest ++ 10 ∷ []) ≡ string_bytes l.initial.text ++ (spaced l.numbers ++ 10 ∷ []);
}

abbrev pub decreases-loop-rest : goal.decreases-loop-rest
decreases-loop-rest l = length l.rest

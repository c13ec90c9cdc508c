-- The text holds the lines of the calls so far.
use Rattle.std.proofs.Common.{◌≡◌, ◌++◌, take, string_bytes}
use Rattle.std.specs.List.{flat_map}
use Rattle.listing.specs.Listed.{call_line}
use Rattle.listing.proofs.add_calls.Given as goal

abbrev pub invariant-loop-call : goal.invariant-loop-call
invariant-loop-call l = string_bytes l.text ≡ string_bytes l.initial.text ++ flat_map call_line (take l.call-index l.calls)

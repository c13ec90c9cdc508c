-- A turn adds the line of the call, if it is refused.
use Rattle.std.proofs.Common.{◌≡◌, ◌++◌, Some, string_bytes, sym, ap, ◌∙◌, append_assoc, append-nil, rules}
use Rattle.oracle.specs.Texts.{refusal_line}
use Rattle.oracle.proofs.More.{refusals_more}
use Rattle.oracle.proofs.texts.add_refusals.Goals as goal
use Rattle.oracle.proofs.texts.add_refusals.Goals.{in-Some+in_ok-writeln, in_default}

pub loop-index-preserved : goal.loop-index-preserved
loop-index-preserved c =
    elim c.match-refusal_of.branch [
      | in-Some+in_ok-writeln w ↦
          let line : string_bytes w.writeln.new.self ≡ string_bytes c.loop-index.text ++ refusal_line c.loop-index.index-counter (Some w.in-Some.refusal) = search (rules, append_assoc) in
          refusals_more _ _ _ _ c.args.calls.now c.loop-index.index-counter _ _ c.loop-index-test.true c.loop-index.invariant w.in-Some.ensures
          (ap string_bytes w.text-is ∙ line)
      | in_default w ↦
          refusals_more _ _ _ _ c.args.calls.now c.loop-index.index-counter _ _ c.loop-index-test.true c.loop-index.invariant w.in_default.ensures
          (ap string_bytes w.text-is ∙ sym (append-nil _))
    ]

-- A turn adds the call's stimulus, if it is one.
use Rattle.std.proofs.Common.{◌≡◌, ◌<◌, length, vec_items, sym, ap, ◌∙◌, append-nil, rules}
use Rattle.oracle.proofs.More.{stimuli_more, stimuli_fit}
use Rattle.oracle.proofs.offers.stimuli_of.Goals as goal
use Rattle.oracle.proofs.offers.stimuli_of.Goals.{in-Some+in_ok-push, in_default}

pub overflow_cast-len : goal.overflow_cast-len
overflow_cast-len c =
    let few = stimuli_fit c.args.end _ c.args.calls.now c.loop-call.call-index c.requires c.loop-call.invariant in
    search (rules, few)

pub loop-call-preserved : goal.loop-call-preserved
loop-call-preserved c =
    let lt : c.loop-call.call-index < length c.args.calls.now = search rules in
    let counted : c.len.result ≡ length (vec_items c.loop-call.stimuli) = search rules in
    elim c.match-stimulus_of.branch [
      | in-Some+in_ok-push w ↦
          stimuli_more _ _ _ c.args.calls.now c.loop-call.call-index _ _ _ lt c.loop-call.invariant counted w.in-Some.ensures
          (ap vec_items w.stimuli-is ∙ w.in_ok-push.ensures.items)
      | in_default w ↦
          stimuli_more _ _ _ c.args.calls.now c.loop-call.call-index _ _ _ lt c.loop-call.invariant counted w.in_default.ensures
          (ap vec_items w.stimuli-is ∙ sym (append-nil _))
    ]

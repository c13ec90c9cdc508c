-- One more message, and at every fourth place a checkpoint.
use Rattle.std.proofs.Common.{ap, ◌∙◌, arith}
use Rattle.rows.specs.Held.{held}
use Rattle.savers.specs.ReplaysLemmas.{replayed_long, one_more, taken_between, taken_at_checkpoint}
use Rattle.savers.proofs.checkpoints.CheckpointsSaver.take.Goals as goal

pub invariant_of-self : goal.invariant_of-self
invariant_of-self g c =
    let s = c.args.self.now in
    let long = replayed_long g.B.Board.rule (held s.checkpoints) (held s.messages) s.first in
    let more = one_more 35 (held s.messages) _ c.args.message.now (omega (arith, long, s.low, s.started, c.held.ensures, c.if-held-ge-CAPACITY.false)) c.push.ensures in
    let added = one_more 9 (held s.checkpoints) _ c.words.result (omega (arith, long, s.low, s.started, s.counted, c.held.ensures, c.if-held-ge-CAPACITY.false)) c.push-then-len-eq0.ensures in
    record {
      low = s.low;
      started = omega (arith, more, s.started);
      within = omega (arith, more, long, c.held.ensures, c.if-held-ge-CAPACITY.false);
      counted = omega (arith, more, added, s.counted, c.len.ensures, c.if-len-eq0.true);
    }

pub invariant_of-self-else-len-eq0 : goal.invariant_of-self-else-len-eq0
invariant_of-self-else-len-eq0 g c =
    let s = c.args.self.now in
    let long = replayed_long g.B.Board.rule (held s.checkpoints) (held s.messages) s.first in
    let more = one_more 35 (held s.messages) _ c.args.message.now (omega (arith, long, s.low, s.started, c.held.ensures, c.if-held-ge-CAPACITY.false)) c.push.ensures in
    record {
      low = s.low;
      started = omega (arith, more, s.started);
      within = omega (arith, more, long, c.held.ensures, c.if-held-ge-CAPACITY.false);
      counted = omega (arith, more, s.counted, c.len.ensures, c.if-len-eq0.false);
    }

pub returns-then-len-eq0-clause-left : goal.returns-then-len-eq0-clause-left
returns-then-len-eq0-clause-left g c =
    let s = c.args.self.now in
    let rule = g.B.Board.rule in
    taken_at_checkpoint rule (held s.checkpoints) (held s.messages) s.first c.args.message.now _ _ _ s.low s.started s.counted
    (omega (arith, c.held.ensures, c.if-held-ge-CAPACITY.false)) (omega (arith, c.len.ensures, c.if-len-eq0.true)) c.push.ensures c.push-then-len-eq0.ensures
    (c.words.ensures ∙ c.react-sends.ensures.leaves_the_rules_words ∙ ap (λ w. (rule w c.args.message.now).words) c.reach-board.ensures)

pub returns-else-len-eq0-clause-left : goal.returns-else-len-eq0-clause-left
returns-else-len-eq0-clause-left g c =
    let s = c.args.self.now in
    taken_between g.B.Board.rule (held s.checkpoints) (held s.messages) s.first c.args.message.now _ s.low s.started
    (omega (arith, c.held.ensures, c.if-held-ge-CAPACITY.false)) (omega (arith, c.len.ensures, c.if-len-eq0.false)) c.push.ensures

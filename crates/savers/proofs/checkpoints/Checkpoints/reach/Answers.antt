-- The board has taken all messages since the last checkpoint.
use Rattle.std.proofs.Common.{◌∙◌}
use Rattle.rows.specs.Held.{held}
use Rattle.savers.specs.ReplaysLemmas.{newest_reached}
use Rattle.savers.proofs.checkpoints.Checkpoints.reach.Goals as goal

pub returns : goal.returns
returns g c =
    let s = c.args.self.now in
    c.loop-message.invariant
    ∙ newest_reached g.B.Board.rule (held s.checkpoints) (held s.messages) s.first c.len-checkpoint.result c.loop-message.message-index _ s.started s.counted c.len-checkpoint.ensures c.as_slice-2.ensures c.loop-message-test.false

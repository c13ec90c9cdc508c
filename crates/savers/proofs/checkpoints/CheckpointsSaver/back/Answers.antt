-- The front of the messages, and the checkpoints among them.
use Rattle.std.proofs.Common.{arith}
use Rattle.rows.specs.Held.{held}
use Rattle.savers.specs.ReplaysLemmas.{replayed_back}
use Rattle.savers.proofs.checkpoints.CheckpointsSaver.back.Goals as goal

pub returns-clause-left : goal.returns-clause-left
returns-clause-left g c =
    let s = c.args.self.now in
    replayed_back g.B.Board.rule (held s.checkpoints) (held s.messages) s.first c.args.n _ _ s.started (omega (arith, c.held.ensures, c.if-n-held.false)) c.cut-2.ensures c.cut.ensures

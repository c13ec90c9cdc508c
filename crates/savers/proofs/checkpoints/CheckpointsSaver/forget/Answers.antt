-- Whole groups of messages are gone, each with its checkpoint.
use Rattle.std.proofs.Common.{arith}
use Rattle.rows.specs.Held.{held}
use Rattle.savers.specs.ReplaysLemmas.{replayed_forgot}
use Rattle.savers.proofs.checkpoints.CheckpointsSaver.forget.Goals as goal

pub returns-clause-left : goal.returns-clause-left
returns-clause-left g c =
    let s = c.args.self.now in
    replayed_forgot g.B.Board.rule (held s.checkpoints) (held s.messages) s.first c.args.n _ _ s.started (omega (arith, c.held.ensures, c.if-n-held.false)) c.shed-2.ensures c.shed.ensures

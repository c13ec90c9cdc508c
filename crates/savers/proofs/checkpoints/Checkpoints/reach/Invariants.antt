-- What the loop of `reach` keeps.
use Rattle.std.proofs.Common.{◌≡◌, get_or, take}
use Rattle.rows.specs.Held.{held}
use Rattle.bus.specs.Reactions.{zeros}
use Rattle.savers.specs.Replays.{after}
use Rattle.savers.proofs.checkpoints.Checkpoints.reach.Given as goal

abbrev pub invariant-loop-message : goal.invariant-loop-message
invariant-loop-message g l =
    let b = g.B.Board in
    b.state l.board ≡ after b.rule (get_or (held l.self.checkpoints) l.checkpoint zeros) (take l.message-index l.message-items)

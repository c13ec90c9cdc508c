-- The in-row up to the standing events.
use Rattle.std.proofs.Common.{take, sym, ap, ◌∙◌}
use Rattle.queues.proofs.Memories.{standing_messages}
use Rattle.queues.proofs.board.BoardQueues.standing_ones.Goals as goal

pub returns : goal.returns
returns c =
    let q = c.args.self.now in
    ap (λ n. take n c.as_slice.result.now) c.len.ensures ∙ ap (take _) c.as_slice.ensures ∙ sym (standing_messages q)

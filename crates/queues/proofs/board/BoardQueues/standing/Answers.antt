-- There is a number of sends for each standing event.
use Rattle.std.proofs.Common.{sym, ◌∙◌}
use Rattle.queues.proofs.Memories.{standing_length}
use Rattle.queues.proofs.board.BoardQueues.standing.Goals as goal

pub returns : goal.returns
returns c = c.len.ensures ∙ sym (standing_length c.args.self.now)

-- The standing events sent what the out-row holds.
use Rattle.std.proofs.Common.{arith}
use Rattle.queues.proofs.Events.{kept_within}
use Rattle.queues.proofs.Memories.{issued_is}
use Rattle.queues.proofs.board.BoardQueues.issued.Goals as goal

pub overflow_add-result : goal.overflow_add-result
overflow_add-result c = omega (arith, c.len.ensures, kept_within c.args.self.now)

pub returns : goal.returns
returns c = omega (arith, c.from.ensures, c.len.ensures, issued_is c.args.self.now)

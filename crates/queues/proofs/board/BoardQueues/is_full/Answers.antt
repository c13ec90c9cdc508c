-- The counts are the room that is taken.
use Rattle.std.proofs.Common.{leb, ap, arith}
use Rattle.queues.proofs.Memories.{room_is}
use Rattle.queues.proofs.board.BoardQueues.is_full.Goals as goal

pub returns : goal.returns
returns c = ap (leb 32) (omega (arith, c.len.ensures, c.len-2.ensures, room_is c.args.self.now))

-- There are no more copies than places.
use Rattle.std.proofs.Common.{arith}
use Rattle.rows.proofs.Within.{held_within}
use Rattle.savers.proofs.full_copies.FullCopiesSaver.back.Goals as goal

pub overflow_add-n : goal.overflow_add-n
overflow_add-n g c = omega (arith, c.held.ensures, held_within c.args.self.now.copies)

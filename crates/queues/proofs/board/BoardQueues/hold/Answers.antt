-- One more early anti-message has room.
use Rattle.std.proofs.Common.{◌≡◌, ◌<◌, length, ap, ◌∙◌, arith}
use Rattle.std.proofs.lemmas.Bool.{cond-true, lt-ltb}
use Rattle.rows.specs.Held.{held}
use Rattle.rows.specs.Rows.{insert}
use Rattle.rows.proofs.Laws.{length_insert}
use Rattle.bus.specs.Order.{message_before}
use Rattle.queues.proofs.Memories.{room_is}
use Rattle.queues.proofs.board.BoardQueues.hold.Goals as goal

pub invariant_of-self : goal.invariant_of-self
invariant_of-self c =
    let q = c.args.self.now in
    let E = held q.early in
    let few : length E < 32 = omega (arith, room_is q, c.requires) in
    let after : held c.put_from.new.self ≡ insert message_before c.args.message E = c.put_from.ensures.after ∙ cond-true _ _ _ (lt-ltb (length E) 32 few) in
    record { fits = omega (arith, ap length after, length_insert message_before c.args.message E, room_is q, c.requires); stands = q.stands; tallies = q.tallies; twos = q.twos }

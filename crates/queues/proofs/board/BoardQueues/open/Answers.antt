-- One more open message, in its place; what stands is left.
use Rattle.std.proofs.Common.{◌≡◌, ◌+◌, ◌<◌, ◌++◌, length, take, drop, refl, ap, ◌∙◌, arith, length-append, length-take, length-drop}
use Rattle.std.proofs.lemmas.Bool.{cond-true, lt-ltb}
use Rattle.rows.specs.Held.{held}
use Rattle.rows.specs.Rows.{insert}
use Rattle.rows.proofs.Laws.{length_insert}
use Rattle.bus.specs.Order.{message_before}
use Rattle.queues.proofs.Memories.{room_is, standing_length}
use Rattle.queues.proofs.Same.{same_queues, open_part}
use Rattle.queues.proofs.board.BoardQueues.open.Goals as goal

placed : (c : goal.After-put_from) → held c.put_from.new.self ≡ take (length (held c.args.self.now.sends)) (held c.args.self.now.messages) ++ insert message_before c.args.message (drop (length (held c.args.self.now.sends)) (held c.args.self.now.messages))
placed c =
    let q = c.args.self.now in
    let M = held q.messages in
    let few : length M < 32 = omega (arith, room_is q, c.requires) in
    c.put_from.ensures.after ∙ cond-true _ _ _ (lt-ltb (length M) 32 few)
    ∙ ap (λ s. take s M ++ insert message_before c.args.message (drop s M)) (c.standing-standing.ensures ∙ standing_length q)

pub invariant_of-self : goal.invariant_of-self
invariant_of-self c =
    let q = c.args.self.now in
    let M = held q.messages in
    let s = length (held q.sends) in
    let new = insert message_before c.args.message (drop s M) in
    let long : length (held c.put_from.new.self) ≡ length M + 1 =
    omega (arith, ap length (placed c), length-append (take s M) new, length_insert message_before c.args.message (drop s M), length-take s M, length-drop s M, q.stands) in
    record { fits = omega (arith, long, room_is q, c.requires); stands = omega (arith, long, q.stands); tallies = q.tallies; twos = q.twos }

pub returns : goal.returns
returns c =
    let q = c.args.self.now in
    same_queues _ _ _ _ _ _ _ _ _ _ (placed c.before) refl refl refl refl ∙ open_part (held q.messages) _ (held q.sends) (held q.outputs) (held q.early) q.sent q.stands

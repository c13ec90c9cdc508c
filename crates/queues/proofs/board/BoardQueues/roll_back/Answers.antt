-- The events that stay keep what they sent.
use Rattle.std.proofs.Common.{◌≡◌, length, take, refl, ap, ◌∙◌, arith, length-take}
use Rattle.rows.specs.Held.{held}
use Rattle.queues.specs.Sums.{sum}
use Rattle.queues.proofs.Memories.{sum_take_le, sends_kept}
use Rattle.queues.proofs.Changes.{rolled}
use Rattle.queues.proofs.Sheds.{small_take}
use Rattle.queues.proofs.Same.{same_queues, twos_by}
use Rattle.queues.proofs.board.BoardQueues.roll_back.Goals as goal

kept : (c : goal.After-cut-2) → c.sent_by-kept.result ≡ sum (take c.args.stay (held c.args.self.now.sends))
kept c = c.sent_by-kept.ensures ∙ sends_kept c.args.self.now c.args.stay

pub invariant_of-self : goal.invariant_of-self
invariant_of-self c =
    let q = c.args.self.now in
    let p = c.args.stay in
    let k = c.sent_by-kept.result in
    record {
      fits = q.fits;
      stands = omega (arith, ap length c.cut-2.ensures, length-take p (held q.sends), q.stands);
      tallies = omega (arith, ap sum c.cut-2.ensures, ap length c.cut.ensures, length-take k (held q.outputs), kept c, sum_take_le (held q.sends) p, q.tallies);
      twos = twos_by _ _ c.cut-2.ensures (small_take p (held q.sends) q.twos);
    }

pub returns : goal.returns
returns c =
    let q = c.args.self.now in
    same_queues _ _ _ _ _ _ _ _ _ _ refl c.cut-2.ensures c.cut.ensures refl refl ∙ rolled q c.args.stay c.sent_by-kept.result (kept c.before)

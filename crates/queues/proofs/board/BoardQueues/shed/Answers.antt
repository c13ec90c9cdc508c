-- The first event goes, and what it sent.
use Rattle.std.proofs.Common.{◌≡◌, ℕ, ◌+◌, ◌<◌, List, [], ◌∷◌, length, get_or, drop, refl, ap, ◌∙◌, arith, rules, length-drop}
use Rattle.rows.specs.Held.{held}
use Rattle.queues.specs.Sums.{sum}
use Rattle.queues.proofs.Memories.{tally, issued_is}
use Rattle.queues.proofs.Sheds.{small_drop, shed_is}
use Rattle.queues.proofs.Same.{same_queues, twos_by}
use Rattle.queues.proofs.board.BoardQueues.shed.Goals as goal

some : (c : goal.After-saturating_add-self) → 0 < length (held c.args.self.now.sends)
some c = search rules

first : (c : goal.After-saturating_add-self) → c.in-Some.gone ≡ get_or (held c.args.self.now.sends) 0 0
first c = search rules

rest : (ns : List ℕ) → 0 < length ns → sum ns ≡ get_or ns 0 0 + sum (drop 1 ns)
rest [] lt = absurd (omega arith)
rest (n ∷ ns) lt = refl

pub invariant_of-self : goal.invariant_of-self
invariant_of-self c =
    let q = c.args.self.now in
    let ns = held q.sends in
    let M = held q.messages in
    record {
      fits = omega (arith, ap length c.shed.ensures, length-drop 1 M, q.fits);
      stands = omega (arith, ap length c.shed.ensures, length-drop 1 M, ap length c.shed-in-Some.ensures, length-drop 1 ns, q.stands);
      tallies = omega (arith, ap sum c.shed-in-Some.ensures, rest ns (some c), first c, c.from.ensures, ap length c.shed-in-Some-2.ensures, length-drop c.from.result (held q.outputs), q.tallies);
      twos = twos_by _ _ c.shed-in-Some.ensures (small_drop 1 ns q.twos);
    }

pub returns-in-Some : goal.returns-in-Some
returns-in-Some c few =
    let q = c.args.self.now in
    let ns = held q.sends in
    let g = get_or ns 0 0 in
    let sent : c.saturating_add-self.result ≡ q.sent + g = omega (arith, c.saturating_add-self.ensures, c.from-in-Some.ensures, first c.before, issued_is q, rest ns (some c.before), q.tallies, few) in
    let left = c.shed-in-Some-2.ensures ∙ ap (λ k. drop k (held q.outputs)) (c.from.ensures ∙ first c.before) in
    same_queues _ _ _ _ _ _ _ _ _ _ c.shed.ensures c.shed-in-Some.ensures left refl sent
    ∙ shed_is (held q.messages) ns (held q.outputs) (held q.early) q.sent (some c.before) q.stands (tally q)

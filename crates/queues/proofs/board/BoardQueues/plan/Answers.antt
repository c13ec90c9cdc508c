-- What the effect says of the arrival.
use Rattle.std.proofs.Common.{◌≡◌, ℕ, ◌-◌, Bool, ◌&&◌, leb, length, drop, sym, ap, ◌∙◌, arith}
use Rattle.queues.specs.declared.plan.Plan.{Plan}
use Rattle.queues.specs.declared.effect.Effect.{Effect}
use Rattle.model.specs.State.{sends_of}
use Rattle.model.specs.Deliver.{room, arrive}
use Rattle.queues.specs.Entries.{queues_of}
use Rattle.queues.specs.Arrivals.{effect_of, stay_by, needs_by}
use Rattle.queues.proofs.Memories.{sends_all}
use Rattle.queues.proofs.Changes.{sends_count, arrive_stay, arrive_needs, stay_within}
use Rattle.queues.proofs.board.BoardQueues.plan.Goals as goal
use Rattle.queues.proofs.board.BoardQueues.plan.Goals.{then-needs_place, else-needs_place}

stays : (c : goal.After-sent_by) → c.stay-stay.result ≡ (arrive c.args.item.now (queues_of c.args.self.now)).stay
stays c =
    let q = queues_of c.args.self.now in
    c.stay-stay.ensures ∙ ap (λ (e : Effect). stay_by e c.standing-standing.result) c.effect-effect.ensures
    ∙ ap (stay_by (effect_of c.args.item.now q)) c.standing-standing.ensures ∙ sym (arrive_stay c.args.item.now q)

pub overflow_sub-result : goal.overflow_sub-result
overflow_sub-result c =
    let q = c.args.self.now in
    omega (arith, c.sent_by.ensures, c.len.ensures, sends_count c.stay-stay.result (queues_of q).standing, sends_all q)

pub overflow_sub-result-2 : goal.overflow_sub-result-2
overflow_sub-result-2 c = omega (arith, stays c, stay_within c.args.item.now (queues_of c.args.self.now), c.standing-standing.ensures)

pub returns : goal.returns
returns c =
    let item = c.args.item.now in
    let q = queues_of c.args.self.now in
    let p = c.stay-stay.result in
    let n : c.needs_place.result ≡ (arrive item q).needs_place = c.needs_place.ensures ∙ ap needs_by c.effect-effect.ensures ∙ sym (arrive_needs item q) in
    let both : Bool → Bool = λ x. x && leb 32 (room q) in
    let f : c.if-needs_place.result ≡ ((arrive item q).needs_place && leb 32 (room q)) =
    elim c.if-needs_place.branch [
      | then-needs_place w ↦ w.result-is ∙ c.is_full-full.ensures ∙ sym (ap both (sym n ∙ w.if-needs_place.true))
      | else-needs_place w ↦ w.result-is ∙ w.if-needs_place.false ∙ sym (ap both (sym n ∙ w.if-needs_place.false))
    ] in
    let r : c.len.result - c.sent_by.result ≡ length (sends_of (drop p q.standing)) =
    omega (arith, c.sent_by.ensures, c.len.ensures, sends_count p q.standing, sends_all c.args.self.now) in
    let u : c.standing-standing.result - p ≡ length q.standing - p = ap (λ x. x - p) c.standing-standing.ensures in
    let F : Bool → ℕ → ℕ → Plan = λ x y z. record { stay = p; full = x; recalled = y; undone = z } in
    let G : ℕ → Plan = λ x. record { stay = x; full = (arrive item q).needs_place && leb 32 (room q); recalled = length (sends_of (drop x q.standing)); undone = length q.standing - x } in
    ap (λ x. F x (c.len.result - c.sent_by.result) (c.standing-standing.result - p)) f
    ∙ ap (λ x. F ((arrive item q).needs_place && leb 32 (room q)) x (c.standing-standing.result - p)) r
    ∙ ap (F ((arrive item q).needs_place && leb 32 (room q)) (length (sends_of (drop p q.standing)))) u
    ∙ ap G (stays c)

-- A delivery that passes all tests is the rule's, and the counts stay in bounds.
use Rattle.std.proofs.Common.{◌≡◌, ◌+◌, ◌*◌, ◌≤◌, false, List, map, length, set, sym, ap, ◌∙◌, arith}
use Rattle.std.proofs.lemmas.List.{length-set, length-map, map-set, set_past, get_or_past}
use Rattle.rows.proofs.Within.{held_within}
use Rattle.model.specs.State.{Queues, no_queues, issued}
use Rattle.model.specs.Deliver.{arrive, deliver}
use Rattle.queues.specs.declared.plan.Plan.{Plan}
use Rattle.queues.specs.Arrivals.{arrived, no_place}
use Rattle.queues.specs.Entries.{queues_of, board_in, boards_in}
use Rattle.queues.specs.Memory.{messages_of}
use Rattle.queues.specs.Transits.{on_way}
use Rattle.bench.proofs.Boards.{board_at}
use Rattle.queues.proofs.Changes.{stay_within}
use Rattle.bench.specs.Benches.{state_of}
use Rattle.bench.specs.Counts.{all_standing}
use Rattle.bench.proofs.Standing.{entry_standing, entry_issued}
use Rattle.bench.proofs.Deliveries.{undone_within, Gave, delivered_is, arrived_is, stay_stand, issued_no_more, recalled_small}
use Rattle.bench.proofs.running.Running.deliver.Given as given
use Rattle.bench.proofs.running.Running.deliver.Goals as goal
use Rattle.bench.proofs.running.Running.deliver.Goals.{After-back, After-arrive}

pub overflow_add-len : goal.overflow_add-len
overflow_add-len g c =
    let b = c.args.self.now in
    let p = c.from-place.result in
    omega (arith, ap (λ (x : Plan). x.recalled) c.plan-plan.ensures, recalled_small c.in_ok-item.item (board_in b.table p), b.numbered p, b.bounded, c.len.ensures, held_within b.transit.items)

-- all that were undone ever are no more than the runs
undone_few : (g : given.Over) (c : After-back g) → c.args.self.now.undone + c.plan-plan.result.undone ≤ c.args.self.now.runs
undone_few g c =
    let b = c.args.self.now in
    omega (arith, undone_within b.table c.from-place.result c.in_ok-item.item c.plan-plan.result c.plan-plan.ensures, b.counted)

pub overflow_cast-self : goal.overflow_cast-self
overflow_cast-self g c = omega (arith, undone_few g (goal.at.overflow_cast-self g c).After-back, c.args.self.now.bounded)

pub overflow_add-self : goal.overflow_add-self
overflow_add-self g c = omega (arith, undone_few g (goal.at.overflow_add-self g c).After-back, c.args.self.now.bounded)

-- the item has arrived at its board
arrives : (g : given.Over) (c : After-arrive g) → queues_of c.arrive.new.self ≡ arrived c.in_ok-item.item (board_in c.args.self.now.table c.from-place.result)
arrives g c =
    let at = board_at c.args.self.now.table.entries c.from-place.result c.index-self-place.result (omega arith) in
    c.arrive.ensures ∙ ap (arrived c.in_ok-item.item) (sym at)

pub invariant_of-self-then-place-lt-MOST_BOARDS : goal.invariant_of-self-then-place-lt-MOST_BOARDS
invariant_of-self-then-place-lt-MOST_BOARDS g c =
    let b = c.args.self.now in
    let bs = b.table.entries in
    let p = c.from-place.result in
    let item = c.in_ok-item.item in
    let last = c.arrive.new.self in
    let q = board_in b.table p in
    let none : no_place item q ≡ false = ap (λ (x : Plan). x.full) (sym c.plan-plan.ensures) ∙ c.if-plan.false in
    let e : queues_of last ≡ (arrive item q).queues = arrives g (goal.at.invariant_of-self-then-place-lt-MOST_BOARDS g c).After-arrive ∙ arrived_is item q none in
    let more : issued (queues_of last) ≤ 2 * b.runs = omega (arith, ap issued e, issued_no_more item q, b.numbered p) in
    let counted : b.undone + c.plan-plan.result.undone + b.committed + all_standing (map queues_of (set bs p last)) ≡ b.runs =
    omega (arith, entry_standing bs p last (omega arith), b.counted, ap (λ (x : Queues). length x.standing) e, stay_stand item q, stay_within item q, ap (λ (x : Plan). x.undone) c.plan-plan.ensures) in
    record { eight = length-set bs p last ∙ b.eight; bounded = b.bounded; counted = counted; numbered = entry_issued bs p last (2 * b.runs) b.numbered more }

pub invariant_of-self-else-place-lt-MOST_BOARDS : goal.invariant_of-self-else-place-lt-MOST_BOARDS
invariant_of-self-else-place-lt-MOST_BOARDS g c =
    let b = c.args.self.now in
    let p = c.from-place.result in
    let none : board_in b.table p ≡ no_queues = get_or_past (boards_in b.table) p no_queues (omega (arith, b.eight, length-map b.table.entries queues_of)) in
    let zero : c.plan-plan.result.undone ≡ 0 = omega (arith, ap (λ (x : Plan). x.undone) c.plan-plan.ensures, ap (λ (x : Queues). length x.standing) none) in
    record { eight = b.eight; bounded = b.bounded; counted = omega (arith, b.counted, zero); numbered = b.numbered }

-- the boards with the arrival, whichever way they come about, make it the rule's
told : (g : given.Over) (c : After-back g) (boards : List Queues) → boards ≡ set (boards_in c.args.self.now.table) c.from-place.result (arrived c.in_ok-item.item (board_in c.args.self.now.table c.from-place.result)) →
    Gave (state_of c.args.self.now) c.args.index c.in_ok-item.item (g.R.Rack.rows c.back.new.self) boards (on_way c.recall.new.self) c.plan-plan.result.undone ≡ deliver (state_of c.args.self.now) c.args.index
told g c boards arrives =
    delivered_is (state_of c.args.self.now) c.args.index c.in_ok-item.item c.message-board.result c.from-place.result c.plan-plan.result (messages_of c.sends_from-recalled.result.now)
    (g.R.Rack.rows c.back.new.self) boards (on_way c.remove.new.self) (on_way c.recall.new.self)
    (sym c.in_ok-item.ensures.ok_part ∙ c.get.ensures) c.message-board.ensures c.from-place.ensures c.plan-plan.ensures c.if-plan.false (omega (arith, c.len.ensures))
    c.back.ensures.left c.sends_from-recalled.ensures c.remove.ensures c.recall.ensures arrives

pub returns-then-place-lt-MOST_BOARDS-clause-does_what_the_rule_says : goal.returns-then-place-lt-MOST_BOARDS-clause-does_what_the_rule_says
returns-then-place-lt-MOST_BOARDS-clause-does_what_the_rule_says g c =
    let b = c.args.self.now in
    let bs = b.table.entries in
    let p = c.from-place.result in
    let last = c.arrive.new.self in
    let path = goal.at.returns-then-place-lt-MOST_BOARDS-clause-does_what_the_rule_says g c in
    told g path.After-back (map queues_of (set bs p last)) (map-set queues_of bs p last ∙ ap (set (map queues_of bs) p) (arrives g path.After-arrive))

pub returns-else-place-lt-MOST_BOARDS-clause-does_what_the_rule_says : goal.returns-else-place-lt-MOST_BOARDS-clause-does_what_the_rule_says
returns-else-place-lt-MOST_BOARDS-clause-does_what_the_rule_says g c =
    let b = c.args.self.now in
    let bs = map queues_of b.table.entries in
    let p = c.from-place.result in
    let stays = sym (set_past bs p (arrived c.in_ok-item.item (board_in b.table p)) (omega (arith, b.eight, length-map b.table.entries queues_of))) in
    told g (goal.at.returns-else-place-lt-MOST_BOARDS-clause-does_what_the_rule_says g c).After-back bs stays

-- A run that is accepted is the rule's; the saver refuses none of them.
use Rattle.std.proofs.Common.{◌≡◌, ℕ, ◌+◌, ◌*◌, ◌^◌, ◌<◌, ◌≤◌, List, ◌++◌, map, length, set, Some, sym, ap, ◌∙◌, arith}
use Rattle.std.proofs.lemmas.List.{length-set, length-map, length-append, map-set, take_all}
use Rattle.bus.specs.declared.Message.{Message}
use Rattle.bus.specs.Reactions.{listed}
use Rattle.addressing.specs.Batches.{Batch}
use Rattle.bus.specs.declared.up_to_two.UpToTwo.TheVariants.{Nothing, One, Two}
use Rattle.addressing.specs.Settings.{addressed_in, addressed}
use Rattle.model.specs.declared.item.Item.TheVariants.{Plus}
use Rattle.model.specs.State.{Queues, State, Answer, ran, issued}
use Rattle.queues.specs.Entries.{queues_of, first_message, first_stands, board_in}
use Rattle.queues.specs.Transits.{on_way}
use Rattle.bench.proofs.Boards.{board_at}
use Rattle.bench.specs.Benches.{setting_of, state_of}
use Rattle.bench.proofs.Standing.{entry_standing, entry_issued, stood_one, issued_stood}
use Rattle.bench.proofs.Reacts.{never_refused, rooms_within, run_is, rest_of, first_some}
use Rattle.bench.proofs.running.Running.run.Given as given
use Rattle.bench.proofs.running.Running.run.Goals as goal
use Rattle.bench.proofs.running.Running.run.Goals.{After-stand}

-- a reaction sends at most two
two_at_most : (b : Batch) → length (listed b) ≤ 2
two_at_most Nothing = omega arith
two_at_most (One m) = omega arith
two_at_most (Two m n) = omega arith

-- the board's first open message stands, with what it sent
stands : (g : given.Over) (c : After-stand g) → queues_of c.stand.new.self ≡ first_stands (listed c.messages-out.result) (board_in c.args.self.now.table c.from-place.result)
stands g c =
    let at = board_at c.args.self.now.table.entries c.from-place.result c.index-self-place.result (omega arith) in
    c.stand.ensures ∙ ap (first_stands (listed c.messages-out.result)) (sym at)

pub invariant_of-self-2 : goal.invariant_of-self-2
invariant_of-self-2 g c =
    let b = c.args.self.now in
    let bs = b.table.entries in
    let k = c.from-place.result in
    let out = listed c.messages-out.result in
    let last = c.stand.new.self in
    let old = board_in b.table k in
    let e = stands g (goal.at.invariant_of-self-2 g c).After-stand in
    let more : issued (queues_of last) ≤ 2 * (b.runs + 1) =
    omega (arith, ap issued e, issued_stood out old old.open_ones, b.numbered k, two_at_most c.messages-out.result) in
    let numbered = entry_issued bs k last (2 * (b.runs + 1)) (λ i. omega (arith, b.numbered i)) more in
    let one : length (queues_of last).standing ≡ length old.standing + 1 =
    ap (λ (q : Queues). length q.standing) e ∙ stood_one out old old.open_ones c.in_ok-message.message (sym c.next.ensures ∙ c.in_ok-message.ensures.ok_part) in
    record { eight = length-set bs k last ∙ b.eight; bounded = omega arith; counted = omega (arith, entry_standing bs k last (omega arith), b.counted, one); numbered = numbered }

pub returns-in_default-clause-does_what_the_rule_says : goal.returns-in_default-clause-does_what_the_rule_says
returns-in_default-clause-does_what_the_rule_says g c =
    let b = c.args.self.now in
    let k = c.args.board in
    let m = c.in_ok-message.message in
    let em : first_message (board_in b.table k).open_ones ≡ Some m = ap (λ (i : ℕ). first_message (board_in b.table i).open_ones) (sym c.from-place.ensures) ∙ sym c.next.ensures ∙ c.in_ok-message.ensures.ok_part in
    λ reached. absurd (never_refused (setting_of b) (state_of b) k m c.in_default.field-0 reached (g.met.R.Rack.level b.rack) (omega (arith, c.boards-boards.ensures)) (rooms_within b.table.entries k) em c.in_default.ensures.answer)

pub returns-clause-does_what_the_rule_says : goal.returns-clause-does_what_the_rule_says
returns-clause-does_what_the_rule_says g c =
    let b = c.args.self.now in
    let C = setting_of b in
    let S = state_of b in
    let bs = b.table.entries in
    let p = c.from-place.result in
    let k = c.args.board in
    let ek : p ≡ k = c.from-place.ensures in
    let m = c.in_ok-message.message in
    let sends = c.in-Ok.sends in
    let out = listed c.messages-out.result in
    let last = c.stand.new.self in
    let os : ℕ → List Message = λ i. (board_in b.table i).open_ones in
    let em : first_message (os k) ≡ Some m = ap (λ (i : ℕ). first_message (os i)) (sym ek) ∙ sym c.next.ensures ∙ c.in_ok-message.ensures.ok_part in
    let eq = stands g (goal.at.returns-clause-does_what_the_rule_says g c).After-stand ∙ ap (λ (i : ℕ). first_stands out (board_in b.table i)) ek in
    let eb : map queues_of (set bs p last) ≡ set (map queues_of bs) k (queues_of last) =
    map-set queues_of bs p last ∙ ap (λ (i : ℕ). set (map queues_of bs) i (queues_of last)) ek in
    let en : c.issued-number.result ≡ issued (board_in b.table k) = c.issued-number.ensures ∙ ap (λ (i : ℕ). issued (board_in b.table i)) ek in
    let small : c.issued-number.result + 1 < 2 ^ 32 = omega (arith, c.issued-number.ensures, b.numbered p, b.bounded) in
    let eout : out ≡ addressed C k m.time (issued (board_in b.table k)) (listed sends) =
    c.messages-out.ensures.numbered_from small
    ∙ ap (λ (n : ℕ). addressed_in n b.end k m.time c.issued-number.result (listed sends)) c.boards-boards.ensures
    ∙ ap (λ (n : ℕ). addressed C k m.time n (listed sends)) en in
    let few : length S.transit ≤ 126 = omega (arith, c.len.ensures) in
    let et : on_way c.send.new.self ≡ S.transit ++ map Plus out =
    c.send.ensures ∙ take_all 128 (S.transit ++ map Plus out) (omega (arith, length-append S.transit (map Plus out), length-map out Plus, few, two_at_most c.messages-out.result)) in
    let F : List Queues → State × Answer = λ x. (
      record {
        rows = g.R.Rack.rows c.take.new.self;
        boards = x;
        transit = on_way c.send.new.self;
        counters = record { offers = b.offers; runs = b.runs + 1; committed = b.committed; undone = b.undone };
        last = b.last;
      },
      ran c.len-2.result,
    ) in
    λ reached. ap F eb
    ∙ run_is C S k m sends out (rest_of (os k)) (g.R.Rack.rows c.take.new.self) (queues_of last) (on_way c.send.new.self) c.len-2.result
    (first_some (os k) m em) (omega (arith, c.boards-boards.ensures)) (omega arith) few
    c.in-Ok.ensures.answer c.in-Ok.ensures.left eout eq et c.len-2.ensures

-- The soonest front is committed: its board sheds it, and its saver forgets it.
use Rattle.std.proofs.Common.{◌≡◌, ◌+◌, ◌*◌, ◌≤◌, true, List, map, length, set, Some, Option, sym, ap, ◌∙◌, arith}
use Rattle.std.proofs.lemmas.List.{length-set, map-set}
use Rattle.std.proofs.lemmas.Bool.{cond-true}
use Rattle.savers.specs.Rows.{Row}
use Rattle.model.specs.State.{Queues, State, issued}
use Rattle.bus.specs.declared.Message.{Message}
use Rattle.model.specs.declared.front.Front.{Front}
use Rattle.model.specs.Commit.{is_final, shed}
use Rattle.model.specs.Lines.{soonest, final_front, next_line, after_line}
use Rattle.queues.specs.Entries.{queues_of, board_in}
use Rattle.bench.proofs.Boards.{board_at}
use Rattle.bench.specs.Benches.{state_of}
use Rattle.bench.specs.Counts.{all_standing}
use Rattle.bench.specs.Logs.{message_of}
use Rattle.bench.proofs.Standing.{front_there, front_inside, entry_standing, entry_issued, shed_one_less, shed_issued}
use Rattle.bench.proofs.running.Running.commit_one.Given as given
use Rattle.bench.proofs.running.Running.commit_one.Goals as goal
use Rattle.bench.proofs.running.Running.commit_one.Goals.{After-shed}

-- the front's board has shed its first event
sheds : (g : given.Over) (c : After-shed g) → queues_of c.shed.new.self ≡ shed 1 (board_in c.args.self.now.table c.in_ok-front.front.board)
sheds g c =
    let b = c.args.self.now in
    let f = c.in_ok-front.front in
    let at = board_at b.table.entries f.board c.index-self-place.result (front_inside b.table f c.in_ok-front.ensures) in
    c.shed.ensures (omega (arith, ap issued at, b.numbered f.board, b.bounded)) ∙ ap (shed 1) (sym at)

pub invariant_of-self : goal.invariant_of-self
invariant_of-self g c =
    let b = c.args.self.now in
    let bs = b.table.entries in
    let f = c.in_ok-front.front in
    let p = f.board in
    let last = c.shed.new.self in
    let old = board_in b.table p in
    let there = front_there b.table f c.in_ok-front.ensures in
    let e = sheds g (goal.at.invariant_of-self g c).After-shed in
    let more : issued (queues_of last) ≤ 2 * b.runs = omega (arith, ap issued e, shed_issued old, b.numbered p) in
    let counted : b.undone + (b.committed + 1) + all_standing (map queues_of (set bs p last)) ≡ b.runs =
    omega (arith, entry_standing bs p last there.0, b.counted, ap (λ (x : Queues). length x.standing) e, shed_one_less old f.message there.1) in
    record { eight = length-set bs p last ∙ b.eight; bounded = b.bounded; counted = counted; numbered = entry_issued bs p last (2 * b.runs) b.numbered more }

-- the next line is the soonest front
next : (o : Option Message) (s : State) (f : Front) → Some f ≡ soonest 0 s.boards → true ≡ is_final o f.message → next_line o s ≡ Some f
next o s f soon final = ap (final_front o) (sym soon) ∙ cond-true _ _ _ (sym final)

pub returns-clause-answers_the_next_line : goal.returns-clause-answers_the_next_line
returns-clause-answers_the_next_line g c = sym (ap message_of (next c.args.outlook (state_of c.args.self.now) c.in_ok-front.front c.in_ok-front.ensures c.if-not-is_final.ensures))

pub returns-clause-takes_the_next_line : goal.returns-clause-takes_the_next_line
returns-clause-takes_the_next_line g c =
    let b = c.args.self.now in
    let bs = b.table.entries in
    let f = c.in_ok-front.front in
    let p = f.board in
    let last = c.shed.new.self in
    let s = state_of b in
    let e = sheds g (goal.at.returns-clause-takes_the_next_line g c).After-shed in
    let with_line : List Row → List Queues → State = λ x y. record {
      rows = x;
      boards = y;
      transit = s.transit;
      counters = record { offers = b.offers; runs = b.runs; committed = b.committed + 1; undone = b.undone };
      last = Some f.message;
    } in
    ap (λ x. with_line x (map queues_of (set bs p last))) c.forget.ensures.left
    ∙ ap (with_line _) (map-set queues_of bs p last ∙ ap (set (map queues_of bs) p) e)
    ∙ sym (ap (after_line s) (next c.args.outlook s f c.in_ok-front.ensures c.if-not-is_final.ensures))

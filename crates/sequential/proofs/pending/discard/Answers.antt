-- To remove at the first equal one's place is to have one equal less.
use Rattle.std.proofs.Common.{List, length, take, sym, ap, ◌∙◌, subst}
use Rattle.rows.specs.Rows.{in_front}
use Rattle.rows.specs.Theorems.{FoundTold}
use Rattle.rows.proofs.Found.{first_told, without_first}
use Rattle.rows.proofs.Memory.{in_front_own}
use Rattle.bus.specs.declared.Message.{Message}
use Rattle.bus.specs.Order.{message_before}
use Rattle.sequential.proofs.Firsts.{without_none}
use Rattle.sequential.proofs.pending.discard.Goals as goal

pub returns-in-Some : goal.returns-in-Some
returns-in-Some c =
    let x = c.args.message.now in
    let row = take c.args.held c.args.pending.now in
    let less = without_first message_before x row c.in-Some.place (sym c.in-Some.ensures) in
    record {
      answer = c.remove.ensures.answer ∙ ap length less;
      after = c.remove.ensures.after ∙ ap (λ (r : List Message). in_front r c.args.pending.now) less;
    }

pub returns-in-None : goal.returns-in-None
returns-in-None c =
    let x = c.args.message.now in
    let row = take c.args.held c.args.pending.now in
    let none = without_none message_before x row (subst (FoundTold message_before x row) (sym c.in-None.ensures) (first_told message_before x row)) in
    record {
      answer = ap length (c.row.ensures ∙ sym none);
      after = sym (ap (λ (r : List Message). in_front r c.args.pending.now) none ∙ in_front_own c.args.held c.args.pending.now);
    }

-- Past the end nothing is removed; else the closed memory has the row without the record in front.
use Rattle.std.proofs.Common.{◌-◌, length, take, sym, ap, ◌∙◌, arith}
use Rattle.rows.specs.Rows.{in_front}
use Rattle.rows.proofs.Memory.{remove_is, without_past, length_without, in_front_own}
use Rattle.rows.proofs.change.remove.Goals as goal

pub returns-then-place-end : goal.returns-then-place-end
returns-then-place-end g c =
    let row = take c.args.count c.args.memory.now in
    let whole = without_past c.args.place row (omega arith) in
    record {
      answer = c.row_len-end.ensures.len ∙ sym (ap length whole);
      after = sym (ap (λ zs. in_front zs c.args.memory.now) whole ∙ in_front_own c.args.count c.args.memory.now);
    }

pub returns : goal.returns
returns g c =
    let len = c.row_len-end.ensures.len in
    let row = take c.args.count c.args.memory.now in
    record {
      answer = ap (λ k. k - 1) len ∙ sym (length_without c.args.place row (omega arith));
      after = c.close.ensures ∙ remove_is c.args.count c.args.memory.now c.args.place c.row_len-end.result len c.if-place-end.false;
    }

-- The closed memory has the rest of the row in front.
use Rattle.std.proofs.Common.{◌∙◌, arith, length-drop}
use Rattle.rows.proofs.Memory.{shed_is}
use Rattle.rows.proofs.change.shed.Goals as goal

pub returns : goal.returns
returns g c =
    let len = c.row_len-end.ensures.len in
    record {
      answer = simp length-drop (omega arith);
      after = c.close.ensures ∙ shed_is c.args.count c.args.memory.now c.args.gone c.min-gone.result c.row_len-end.result len c.min-gone.ensures;
    }

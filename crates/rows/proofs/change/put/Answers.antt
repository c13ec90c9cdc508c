-- The place is within the row, and the opened memory has the inserted row in front.
use Rattle.std.proofs.Common.{take, ◌∙◌, arith}
use Rattle.rows.proofs.Laws.{place_within}
use Rattle.rows.proofs.Memory.{put_is, put_answers}
use Rattle.rows.proofs.change.put.Goals as goal

pub open-requires : goal.open-requires
open-requires g c =
    omega (arith, place_within g.T.TotalOrder.earlier c.args.item (take c.args.count c.args.memory.now))

pub returns : goal.returns
returns g c =
    let len = c.row_len-end.ensures.len in
    record {
      answer = put_answers c.args.count c.args.memory.now c.row_len-end.result len (omega arith);
      after = c.open.ensures ∙ put_is c.args.count c.args.memory.now g.T.TotalOrder.earlier c.args.item c.place-at.result c.row_len-end.result c.place-at.ensures len (omega arith);
    }

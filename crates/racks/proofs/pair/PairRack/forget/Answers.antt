-- `forget` of a pair does what its contract says.
use Rattle.savers.specs.Rows.{row_forgot, answer_if_has}
use Rattle.racks.specs.SidesLemmas.{left_rows, left_answer, right_rows, right_answer}
use Rattle.racks.proofs.pair.PairRack.forget.Goals as goal

pub returns-in-Left : goal.returns-in-Left
returns-in-Left g c =
    let level = g.met.L.Rack.level c.args.self.now.left in
    let at = c.in-Left.ensures in
    record {
      left = left_rows _ _ _ _ _ level at (λ row. row_forgot row c.args.n) c.forget.ensures.left;
      answer = left_answer _ _ _ _ _ level at (λ row. answer_if_has row c.args.n) c.forget.ensures.answer;
    }

pub returns-in-Right : goal.returns-in-Right
returns-in-Right g c =
    let level = g.met.L.Rack.level c.args.self.now.left in
    let at = c.in-Right.ensures in
    record {
      left = right_rows _ _ _ _ _ level at (λ row. row_forgot row c.args.n) c.forget-in-Right.ensures.left;
      answer = right_answer _ _ _ _ _ level at (λ row. answer_if_has row c.args.n) c.forget-in-Right.ensures.answer;
    }

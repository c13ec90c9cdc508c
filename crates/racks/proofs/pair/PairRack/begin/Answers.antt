-- `begin` of a pair does what its contract says.
use Rattle.std.proofs.Common.{[], ◌∷◌, Ok}
use Rattle.racks.specs.SidesLemmas.{left_rows, left_answer, right_rows, right_answer}
use Rattle.racks.proofs.pair.PairRack.begin.Goals as goal

pub returns-in-Left : goal.returns-in-Left
returns-in-Left g c =
    let level = g.met.L.Rack.level c.args.self.now.left in
    let at = c.in-Left.ensures in
    record {
      left = left_rows _ _ _ _ _ level at (λ row. c.args.start ∷ []) c.begin.ensures.left;
      answer = left_answer _ _ _ _ _ level at (λ row. Ok tt) c.begin.ensures.answer;
    }

pub returns-in-Right : goal.returns-in-Right
returns-in-Right g c =
    let level = g.met.L.Rack.level c.args.self.now.left in
    let at = c.in-Right.ensures in
    record {
      left = right_rows _ _ _ _ _ level at (λ row. c.args.start ∷ []) c.begin-in-Right.ensures.left;
      answer = right_answer _ _ _ _ _ level at (λ row. Ok tt) c.begin-in-Right.ensures.answer;
    }

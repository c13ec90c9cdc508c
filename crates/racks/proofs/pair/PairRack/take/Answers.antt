-- `take` of a pair does what its contract says.
use Rattle.std.proofs.Common.{◌++◌, set, ap, ◌∙◌}
use Rattle.savers.specs.Rows.{row_taken, answer_taken}
use Rattle.racks.specs.Racks.{rule_at, row_at, at_address}
use Rattle.racks.specs.SidesLemmas.{left_rows, left_answer, left_rule, right_rows, right_answer, right_rule}
use Rattle.racks.proofs.pair.PairRack.take.Goals as goal

pub returns-in-Left : goal.returns-in-Left
returns-in-Left g c =
    let level = g.met.L.Rack.level c.args.self.now.left in
    let at = c.in-Left.ensures in
    let m = c.args.message.now in
    let j = c.in-Left.k in
    let rows = g.L.Rack.rows c.args.self.now.left in
    let rule = rule_at (g.L.Rack.rules ++ g.R.Rack.rules) c.args.address in
    let same = left_rule g.L.Rack.rules g.R.Rack.rules c.args.address j at in
    record {
      left = left_rows _ _ _ _ _ level at (λ row. row_taken rule row m) (c.take.ensures.left ∙ ap (λ r. set rows j (row_taken r (row_at rows j) m)) same);
      answer = left_answer _ _ _ _ _ level at (λ row. answer_taken rule row m) (c.take.ensures.answer ∙ ap (λ r. at_address rows j (answer_taken r (row_at rows j) m)) same);
    }

pub returns-in-Right : goal.returns-in-Right
returns-in-Right g c =
    let level = g.met.L.Rack.level c.args.self.now.left in
    let at = c.in-Right.ensures in
    let m = c.args.message.now in
    let j = c.in-Right.k in
    let rows = g.R.Rack.rows c.args.self.now.right in
    let rule = rule_at (g.L.Rack.rules ++ g.R.Rack.rules) c.args.address in
    let same = right_rule g.L.Rack.rules g.R.Rack.rules c.args.address j at in
    record {
      left = right_rows _ _ _ _ _ level at (λ row. row_taken rule row m) (c.take-in-Right.ensures.left ∙ ap (λ r. set rows j (row_taken r (row_at rows j) m)) same);
      answer = right_answer _ _ _ _ _ level at (λ row. answer_taken rule row m) (c.take-in-Right.ensures.answer ∙ ap (λ r. at_address rows j (answer_taken r (row_at rows j) m)) same);
    }

-- A few numbers are added, and a space behind them.
use Rattle.std.proofs.Common.{◌<◌, [], ◌∷◌, ◌++◌, length, string_bytes, arith, sym, ap, ◌∙◌}
use Rattle.bus.specs.Lines.{spaced}
use Rattle.report.proofs.Spaced.{part_more}
use Rattle.report.proofs.end_with.Goals as goal

pub loop-rest-preserved : goal.loop-rest-preserved
loop-rest-preserved c =
    let l = c.loop-rest in
    let few = c.split_at.result.0.now in
    let more = c.split_at.result.1.now in
    let parts = ap (λ ns. string_bytes l.text ++ (spaced ns ++ 10 ∷ [])) (sym c.split_at.ensures.by_index.0) in
    let others : 0 < length more = omega arith in
    record {
      some = others;
      whole = part_more 10 (string_bytes l.text) _ _ few more (omega arith) others (parts ∙ l.invariant.whole) c.in_ok-add_few.ensures;
    }

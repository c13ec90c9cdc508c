-- The fold takes one more record into account at each turn, from the end on.
use Rattle.std.proofs.Common.{◌≡◌, reverse, None, refl, ◌∙◌, arith}
use Rattle.std.proofs.lemmas.Grind.{common_steps}
use Rattle.std.specs.List.{fold}
use Rattle.rows.specs.Rows.{nearer, least}
use Rattle.rows.proofs.Folds.{folded_back}
use Rattle.rows.proofs.search.least.Goals as goal

pub returns : goal.returns
returns g c =
    let e : c.rfold.result ≡ fold (λ best x. nearer g.T.TotalOrder.earlier x best) None (reverse c.args.row.now) = grind (arith, common_steps) in
    e ∙ folded_back (least g.T.TotalOrder.earlier) (λ best x. nearer g.T.TotalOrder.earlier x best) None refl (λ x xs. refl) c.args.row.now

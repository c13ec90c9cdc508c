-- What the chain tells place by place.
use Rattle.std.proofs.Common.{ap, ◌∙◌, rules}
use Rattle.rows.specs.Rows.{place_of}
use Rattle.rows.proofs.Steps.{FirstPasses, first_or_end}
use Rattle.rows.proofs.search.place.Goals as goal

pub returns : goal.returns
returns g c =
    let told : FirstPasses (g.T.TotalOrder.earlier c.args.item.now) c.row-row.result.now c.position.result = search rules in
    c.unwrap_or.ensures ∙ first_or_end _ _ c.args.item.now _ told ∙ ap (place_of g.T.TotalOrder.earlier c.args.item.now) c.row-row.ensures

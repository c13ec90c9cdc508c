-- What the chain tells place by place.
use Rattle.std.proofs.Common.{ap, ◌∙◌, rules}
use Rattle.rows.specs.Order.{same}
use Rattle.rows.specs.Rows.{first_of}
use Rattle.rows.proofs.Steps.{FirstPasses, first_is}
use Rattle.rows.proofs.search.find.Goals as goal

pub returns : goal.returns
returns g c =
    let told : FirstPasses (same g.T.TotalOrder.earlier c.args.item.now) c.row.result.now c.position.result = search rules in
    first_is _ _ c.args.item.now _ told ∙ ap (first_of g.T.TotalOrder.earlier c.args.item.now) c.row.ensures

-- What the chain tells place by place.
use Rattle.std.proofs.Common.{ap, ◌∙◌, rules}
use Rattle.rows.specs.Order.{same}
use Rattle.rows.specs.Rows.{last_of}
use Rattle.rows.proofs.Steps.{LastPasses, last_is}
use Rattle.rows.proofs.search.find_last.Goals as goal

pub returns : goal.returns
returns g c =
    let told : LastPasses (same g.T.TotalOrder.earlier c.args.item.now) c.row.result.now c.rposition.result = search rules in
    last_is g.T.TotalOrder.earlier c.args.item.now _ _ told ∙ ap (last_of g.T.TotalOrder.earlier c.args.item.now) c.row.ensures

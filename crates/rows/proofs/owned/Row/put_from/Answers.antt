-- The part behind the place has one more record, and what is in front of it stays.
use Rattle.rows.specs.Held.{held}
use Rattle.rows.proofs.Placed.{placed_from}
use Rattle.rows.proofs.owned.Row.put_from.Goals as goal

pub returns-clause-after : goal.returns-clause-after
unfolding held
returns-clause-after g c =
    let row = c.args.self.now in
    placed_from g.T.TotalOrder.earlier row.memory row.count g.row.N c.args.from c.min-from.result c.in_ok-self.field-0 c.args.item c.put.new.memory row.sized row.fits c.min-from.ensures c.in_ok-self.ensures.answer c.put.ensures.after

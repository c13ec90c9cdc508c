-- The boards begin, and so the bench starts as the law asks.
use Rattle.std.proofs.Common.{List, sym, ap, ◌∙◌, subst}
use Rattle.savers.specs.Rows.{Row}
use Rattle.model.specs.State.{started}
use Rattle.model.specs.Law.{Reached}
use Rattle.model.proofs.Reach.{reached_start}
use Rattle.bench.specs.Benches.{Bench}
use Rattle.bench.specs.Setups.{start_of, first_rows}
use Rattle.bench.proofs.Begins.{set_up_of}
use Rattle.bench.proofs.setup.Setup.start.Goals as goal

pub returns-clause-bench_is_reached : goal.returns-clause-bench_is_reached
returns-clause-bench_is_reached g c =
    let u = c.args.self in
    let rules = g.R.Rack.rules in
    let rows = g.R.Rack.rows in
    let start = start_of u in
    let begun : List Row → Bench = λ rs. record { setting = start.setting; state = started rs } in
    let starts = c.fresh.ensures ∙ ap begun c.begin_all.ensures in
    subst (λ (b : Bench). Reached b.setting b.state) (sym starts)
    (reached_start start.setting start.words (first_rows start) (set_up_of u (g.met.R.Rack.level u.rack)))

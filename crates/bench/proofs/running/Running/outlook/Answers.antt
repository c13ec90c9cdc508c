-- The least of the boards and of transit is the least of both together.
use Rattle.std.proofs.Common.{map, sym, ap, ◌∙◌}
use Rattle.model.specs.State.{flat, inside}
use Rattle.model.specs.Outlook.{open_and_early}
use Rattle.queues.specs.Entries.{boards_in}
use Rattle.queues.specs.Outlooks.{least_onto}
use Rattle.queues.specs.Transits.{on_way}
use Rattle.queues.proofs.Outlooks.{least_append}
use Rattle.bench.proofs.running.Running.outlook.Goals as goal

pub returns : goal.returns
returns g c =
    let b = c.args.self.now in
    let B = flat (map open_and_early (boards_in b.table)) in
    c.outlook.ensures ∙ ap (least_onto B) c.least.ensures ∙ sym (least_append B (map inside (on_way b.transit)))

-- The run is that of the calls which the schedule's ask for.
use Rattle.std.proofs.Common.{map, ap, ◌∙◌}
use Rattle.playing.specs.Asked.{asked}
use Rattle.playing.proofs.Told.{run_added}
use Rattle.playing.proofs.add_schedule.Goals as goal

pub returns : goal.returns
returns c =
    let same = c.deref-2.ensures.value ∙ c.in_ok-calls.ensures ∙ ap (map asked) c.deref.ensures.value in
    run_added _ _ _ c.args.schedule.now.end _ _ _ _ _ c.in_ok-run.ensures same c.add_run.ensures

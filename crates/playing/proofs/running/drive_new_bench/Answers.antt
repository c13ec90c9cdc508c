-- By what the bench promises of the set-up with this rack.
use Rattle.std.proofs.Common.{ap, ◌∙◌}
use Rattle.bench.specs.Setups.{Start, first_rows}
use Rattle.playing.proofs.Driven.{drives_all}
use Rattle.playing.proofs.running.drive_new_bench.Goals as goal

pub returns : goal.returns
returns c =
    let begins = c.new-setup.ensures.every_board_starts_with_zeros in
    drives_all _ _ _ _ _ _ _ _ _ _ _ c.requires.outcomes_fit c.requires.lines_fit
    (ap (λ (u : Start). u.setting) begins) (ap first_rows begins)
    c.drive-lines.ensures.outcomes_and_lines_are_the_models_and_lawful
    (c.totals.ensures ∙ c.close.ensures.totals_are_the_last_ones)

-- So many calls are played.
use Rattle.std.proofs.Common.{◌≡◌, take}
use Rattle.model.specs.State.{started}
use Rattle.bench.specs.Benches.{setting_of, state_of}
use Rattle.bench.specs.Setups.{start_of, first_rows}
use Rattle.bench.proofs.Drives.{Played}
use Rattle.bench.proofs.driving.drive.Given as goal

abbrev pub invariant-loop-i : goal.invariant-loop-i
invariant-loop-i g l =
    let u = start_of l.fn.setup in
    record {
      follows : Played u.setting (started (first_rows u)) l.initial.outcomes l.initial.log (take l.i l.played) (state_of l.bench) l.outcomes l.log l.lines;
      keeps : setting_of l.bench ≡ u.setting;
    }

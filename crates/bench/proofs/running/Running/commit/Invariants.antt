-- So many lines are written.
use Rattle.std.proofs.Common.{◌≡◌}
use Rattle.bench.specs.Benches.{setting_of, state_of}
use Rattle.bench.proofs.Lines.{Written}
use Rattle.bench.proofs.running.Running.commit.Given as goal

abbrev pub invariant-loop-i : goal.invariant-loop-i
invariant-loop-i g l = record {
  written : Written l.outlook (state_of l.initial.self) l.initial.log l.i (state_of l.self) l.log;
  keeps : setting_of l.self ≡ setting_of l.initial.self;
}

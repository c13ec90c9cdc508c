-- A commit into the part of the log that its call allows.
use Rattle.std.proofs.Common.{ℕ, ◌≤◌, length, sym, ap, ◌∙◌, arith}
use Rattle.std.proofs.lemmas.List.{length-take-le}
use Rattle.model.specs.Commit.{commit}
use Rattle.bench.specs.Benches.{setting_of, state_of}
use Rattle.bench.specs.Logs.{put_into, perform_into}
use Rattle.bench.proofs.Logs.{commit_in_part}
use Rattle.bench.proofs.running.Running.perform.Goals as goal

pub returns-in-Commit-clause-does_what_the_rule_says : goal.returns-in-Commit-clause-does_what_the_rule_says
returns-in-Commit-clause-does_what_the_rule_says g c =
    let s = state_of c.args.self.now in
    let log = c.args.log.now in
    let m = c.min-fitting.result in
    let ml : m ≤ length log = omega (arith, c.min-fitting.ensures) in
    λ reached.
    commit_in_part s (state_of c.commit.new.self) c.commit.result m log c.commit.new.log ml
    (omega (arith, c.commit.ensures.writes_within_the_log, length-take-le m log ml)) (c.commit.ensures.does_what_the_rule_says reached)
    ∙ ap (λ (k : ℕ). put_into log (commit s k)) c.min-fitting.ensures
    ∙ ap (perform_into log (setting_of c.args.self.now) s) (sym c.in-Commit.is)

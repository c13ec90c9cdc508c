-- Line by line the log fills, and together the lines are those of the rule.
use Rattle.std.proofs.Common.{◌≡◌, ℕ, ◌≤◌, List, length, take, drop, Option, sym, ap, ◌∙◌, arith}
use Rattle.std.proofs.lemmas.List.{set-get_or}
use Rattle.bus.specs.declared.Message.{Message}
use Rattle.addressing.specs.Settings.{Setting}
use Rattle.model.specs.Law.{Reached}
use Rattle.model.specs.State.{State, Answer, committed}
use Rattle.model.specs.Outlook.{outlook}
use Rattle.model.specs.Lines.{state_after, lines_after}
use Rattle.model.proofs.Turns.{turns_are}
use Rattle.bench.specs.Benches.{setting_of, state_of}
use Rattle.bench.specs.Logs.{commit_into}
use Rattle.bench.proofs.Lines.{written_more, written_stop, written_all}
use Rattle.bench.proofs.Logs.{commit_is}
use Rattle.bench.proofs.running.Running.commit.Goals as goal

pub loop-i-preserved : goal.loop-i-preserved
loop-i-preserved g c = record {
  written = written_more c.outlook-outlook.result (state_of c.args.self.now) c.args.log.now
      c.loop-i.i (state_of c.loop-i.self) c.loop-i.log (omega arith) c.loop-i.invariant.written
      c.in-Some.line (state_of c.commit_one.new.self) c.loop-i-test.true c.in-Some.ensures.answers_the_next_line c.in-Some.ensures.takes_the_next_line;
  keeps = c.in-Some.ensures.keeps_the_setting ∙ c.loop-i.invariant.keeps;
}

-- the state and the lines, by the outlook that the call found, are those of the rule
does : (c : Setting) (s s' : State) (log₀ log : List Message) (n : ℕ) (o : Option Message) → Reached c s → o ≡ outlook s →
    s' ≡ state_after o (length log₀) s → take n log ≡ lines_after o (length log₀) s → n ≤ length log → drop n log ≡ drop n log₀ → (s', n, log) ≡ commit_into log₀ s
does c s s' log₀ log n o reached eo es el within rest =
    let turns : State → List Message → State × Answer = λ x y. (x, committed y) in
    let m = length log₀ in
    commit_is s s' n log log₀
    (ap (λ (x : State). turns x (take n log)) es ∙ ap (turns (state_after o m s)) el ∙ ap (λ (x : Option Message). turns (state_after x m s) (lines_after x m s)) eo ∙ turns_are c s reached m)
    within rest

pub returns-in-None-clause-does_what_the_rule_says : goal.returns-in-None-clause-does_what_the_rule_says
returns-in-None-clause-does_what_the_rule_says g c =
    let s = state_of c.args.self.now in
    let s' = state_of c.commit_one.new.self in
    let log₀ = c.args.log.now in
    let log = c.loop-i.log in
    let o = c.outlook-outlook.result in
    let i = c.loop-i.i in
    let before = c.loop-i.invariant.written in
    let end = written_stop o s log₀ i (state_of c.loop-i.self) log (omega arith) before s' (omega arith) c.in-None.ensures.answers_the_next_line c.in-None.ensures.takes_the_next_line in
    -- the place that was lent for a line holds what it held
    rw set-get_or (λ reached. does (setting_of c.args.self.now) s s' log₀ log i o reached c.outlook-outlook.ensures end.0 end.1 (omega arith) before.rest)

pub returns-clause-does_what_the_rule_says : goal.returns-clause-does_what_the_rule_says
returns-clause-does_what_the_rule_says g c =
    let s = state_of c.args.self.now in
    let s' = state_of c.loop-i.self in
    let log₀ = c.args.log.now in
    let log = c.loop-i.log in
    let o = c.outlook-outlook.result in
    let n = length log in
    let before = c.loop-i.invariant.written in
    let at_end : c.loop-i.i ≡ n = omega arith in
    let end = written_all o s log₀ c.loop-i.i s' log (omega arith) before (omega arith) in
    let lines : take n log ≡ lines_after o (length log₀) s = ap (λ (k : ℕ). take k log) (sym at_end) ∙ end.1 in
    let rest : drop n log ≡ drop n log₀ = ap (λ (k : ℕ). drop k log) (sym at_end) ∙ before.rest ∙ ap (λ (k : ℕ). drop k log₀) at_end in
    λ reached. does (setting_of c.args.self.now) s s' log₀ log n o reached c.outlook-outlook.ensures end.0 lines (omega arith) rest

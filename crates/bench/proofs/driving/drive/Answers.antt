-- Call by call the outcomes and lines are the rules', and there is memory for them.
use Rattle.std.proofs.Common.{◌≡◌, ℕ, ◌+◌, ◌-◌, ◌≤◌, min, List, ◌++◌, length, get_or, take, drop, set, sym, ap, ◌∙◌, subst, arith}
use Rattle.std.proofs.lemmas.List.{take_more, take_all, take_rest, length-take, length-take-le, length-drop}
use Rattle.model.specs.declared.call.Call.{Call}
use Rattle.model.specs.declared.call.Call.TheVariants.{Offer}
use Rattle.model.specs.State.{started}
use Rattle.model.specs.Perform.{perform}
use Rattle.model.specs.Outcomes.{lines_in}
use Rattle.model.proofs.Law.{law}
use Rattle.bench.specs.Benches.{setting_of, state_of}
use Rattle.bench.specs.Setups.{start_of, first_rows}
use Rattle.bench.specs.Logs.{put_into}
use Rattle.bench.specs.Drives.{calls_with_memory}
use Rattle.bench.proofs.Begins.{set_up_of}
use Rattle.bench.proofs.Drives.{Played, told_within, played_more, reached_so, turn_told, all_played}
use Rattle.bench.proofs.driving.drive.Given as given
use Rattle.bench.proofs.driving.drive.Goals as goal

-- what the call of a turn is told
turn : (g : given.Over) (c : goal.After-lines-lines g) →
    (state_of c.perform-outcome.new.self, c.perform-outcome.result, c.perform-outcome.new.log)
    ≡ put_into (drop c.loop-i.lines c.loop-i.log)
    (perform (start_of c.args.setup).setting (state_of c.loop-i.bench) (get_or (take c.min-2.result c.args.calls.now) c.loop-i.i (Offer 0 0 0 0)))
turn g c =
    let u = start_of c.args.setup in
    let log₀ = c.args.log.now in
    let calls = take c.min-2.result c.args.calls.now in
    let xs = take c.loop-i.i calls in
    let set_up = set_up_of c.args.setup (g.met.R.Rack.level c.args.setup.rack) in
    let i = c.loop-i in
    let few : length xs ≤ length log₀ = omega (arith, length-take c.loop-i.i calls, length-take c.min-2.result c.args.calls.now, c.min-2.ensures) in
    let reached = reached_so u.setting u.words (first_rows u) set_up c.args.outcomes.now log₀ xs (state_of i.bench) i.outcomes i.log i.lines i.invariant.follows (setting_of i.bench) i.invariant.keeps in
    turn_told u.setting u.words (first_rows u) set_up c.args.outcomes.now log₀ xs (state_of i.bench) i.outcomes i.log i.lines i.invariant.follows (setting_of i.bench) i.invariant.keeps
    (get_or calls i.i (Offer 0 0 0 0)) (state_of c.perform-outcome.new.self, c.perform-outcome.result, c.perform-outcome.new.log) i.auto.log few (c.perform-outcome.ensures.does_what_the_rule_says reached)

pub overflow_add-lines : goal.overflow_add-lines
overflow_add-lines g c =
    let u = start_of c.args.setup in
    let calls = take c.min-2.result c.args.calls.now in
    let i = c.loop-i in
    let part = c.perform-outcome.new.log in
    let same : length part ≡ length (drop i.lines i.log) = c.perform-outcome.auto.log ∙ ap length (take_rest i.log i.lines) in
    let within : i.lines + lines_in c.perform-outcome.result ≤ length i.log =
    told_within u.setting (started (first_rows u)) c.args.outcomes.now c.args.log.now (take i.i calls) (state_of i.bench) i.outcomes i.log i.lines i.invariant.follows
    (get_or calls i.i (Offer 0 0 0 0)) (state_of c.perform-outcome.new.self) c.perform-outcome.result part (turn g c) same in
    let fits : i.lines + c.lines-lines.result ≤ length i.log = omega (arith, within, c.lines-lines.ensures) in
    record { fits = omega (arith, fits) }

pub loop-i-preserved : goal.loop-i-preserved
loop-i-preserved g c =
    let u = start_of c.args.setup in
    let s₀ = started (first_rows u) in
    let outs₀ = c.args.outcomes.now in
    let log₀ = c.args.log.now in
    let calls = take c.min-2.result c.args.calls.now in
    let i = c.loop-i in
    let o = c.perform-outcome.result in
    let part = c.perform-outcome.new.log in
    let s' = state_of c.perform-outcome.new.self in
    let call = get_or calls i.i (Offer 0 0 0 0) in
    let many = length-take c.min-2.result c.args.calls.now in
    let at : i.i ≡ length (take i.i calls) = sym (length-take-le i.i calls (omega (arith, c.loop-i-test.true))) in
    let more =
    played_more u.setting s₀ outs₀ log₀ (take i.i calls) (state_of i.bench) i.outcomes i.log i.lines i.invariant.follows call s' o part (turn g c)
    i.i c.lines-lines.result (length i.log - i.lines) at (omega (arith, many, c.loop-i-test.true, c.min-2.ensures, c.min.ensures)) c.lines-lines.ensures (omega (arith, length-drop i.lines i.log)) in
    record {
      follows = subst (λ (xs : List Call). Played u.setting s₀ outs₀ log₀ xs s' (set i.outcomes i.i o) (take i.lines i.log ++ (part ++ drop (length i.log - i.lines) (drop i.lines i.log))) (i.lines + c.lines-lines.result))
          (sym (take_more calls i.i (Offer 0 0 0 0) c.loop-i-test.true)) more;
      keeps = c.perform-outcome.ensures.keeps_the_setting ∙ i.invariant.keeps;
    }

pub returns : goal.returns
returns g c =
    let u = start_of c.args.setup in
    let calls = take c.min-2.result c.args.calls.now in
    let i = c.loop-i in
    let all = all_played c.args.calls.now c.args.outcomes.now c.args.log.now c.min-2.result (c.min-2.ensures ∙ ap (λ (n : ℕ). min n (length c.args.log.now)) c.min.ensures) in
    let p = subst (λ (xs : List Call). Played u.setting (started (first_rows u)) c.args.outcomes.now c.args.log.now xs (state_of i.bench) i.outcomes i.log i.lines)
    (take_all i.i calls c.loop-i-test.false ∙ all) i.invariant.follows in
    record {
      outcomes_and_lines_are_the_models_and_lawful = record {
        setting_is_the_given_one = i.invariant.keeps;
        state_is_the_models = p.state_is;
        outcomes_are_the_models = p.outs_are;
        log_holds_the_committed_lines = p.log_is;
        calls_are_counted = ap length all;
        lines_are_counted = p.count_is;
        lawful = law u.setting u.words (first_rows u) (set_up_of c.args.setup (g.met.R.Rack.level c.args.setup.rack)) (calls_with_memory c.args.calls.now c.args.outcomes.now c.args.log.now);
      };
    }

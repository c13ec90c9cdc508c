-- The run leaves what the machine has after the most lines.
use Rattle.std.proofs.Common.{◌≡◌, ◌++◌, take, vec_items, vec_len, sym, ap, ◌∙◌}
use Rattle.rows.specs.Rows.{in_front}
use Rattle.rows.proofs.Lent.{take_in_front}
use Rattle.oracle.proofs.Whole.{whole_run}
use Rattle.oracle.proofs.runs.run_on.Goals as goal

pub returns : goal.returns
returns c =
    let stimuli = vec_items c.args.stimuli in
    let steps = c.run-outcome.result.steps in
    let log = c.in_ok-log.log in
    let written = c.run-outcome.new.log in
    let left : vec_items c.truncate.new.self ≡ take steps (take (vec_len log) (in_front written (vec_items log))) = c.truncate.ensures.items in
    let laid : c.deref_mut.result.now ≡ stimuli ++ c.deref_mut-2.result.now =
    c.deref_mut.ensures.value ∙ c.in_ok-extend_from_slice.ensures.items ∙ ap (λ l. stimuli ++ l) (c.deref.ensures.value ∙ sym c.deref_mut-2.ensures.value) in
    let ran = whole_run c.args.end stimuli c.deref_mut-2.result.now c.deref_mut.result.now c.len-count.result steps
    written c.run-outcome.result.pending c.run-outcome.result.ended
    laid (c.len-count.ensures ∙ c.args.stimuli.ok.0)
    (c.deref_mut-2.ensures.len ∙ c.in_ok-log.ensures.len) c.run-outcome.auto.log
    c.run-outcome.ensures.log_holds_the_lines c.run-outcome.ensures.each_step_wrote_a_line
    c.run-outcome.ensures.pending_is_counted c.run-outcome.ensures.run_had_to_end in
    (left ∙ ap (take steps) (take_in_front written (vec_items log) (vec_len log) (c.run-outcome.auto.log ∙ c.deref_mut-2.ensures.len)) ∙ ran.0, ran.1)

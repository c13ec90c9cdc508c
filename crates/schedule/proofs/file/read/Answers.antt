-- One call more, the two laws at each exit, and the file's end.
use Rattle.std.proofs.Common.{◌≡◌, ◌≤◌, length, sym, ◌∙◌, subst, rules}
use Rattle.schedule.proofs.Laws.{Sofar, one_more, done, opens_1, unplaced}
use Rattle.schedule.proofs.Readings.{written_is_read, reads_the_layout, faults_where_it_breaks_off}
use Rattle.schedule.proofs.file.read.Goals as goal

pub loop-rest-preserved : goal.loop-rest-preserved
loop-rest-preserved c =
    let read = rw (unplaced _ _ c.read_call.result c.in_ok-call.ensures) at c.read_call.ensures in
    let some : 1 ≤ length c.loop-rest.rest.now = search rules in
    let opened = rw c.from.ensures at read.0 in
    subst (λ l. Sofar c.args.bytes.now c.in_ok-end.end l c.in_ok-call.after.now) (sym c.in_default-push.ensures.items)
    (one_more _ _ _ _ _ _ c.loop-rest.invariant (opens_1 c.loop-rest.rest.now some ∙ opened) read.1)

pub returns-in_err-call-clause-reads_the_layout : goal.returns-in_err-call-clause-reads_the_layout
returns-in_err-call-clause-reads_the_layout c = reads_the_layout c.args.bytes.now c.type_inv.bytes

pub returns-in_err-call-clause-faults_where_it_breaks_off : goal.returns-in_err-call-clause-faults_where_it_breaks_off
returns-in_err-call-clause-faults_where_it_breaks_off c = faults_where_it_breaks_off c.args.bytes.now c.type_inv.bytes

pub returns-in_err-check_calls-clause-reads_the_layout : goal.returns-in_err-check_calls-clause-reads_the_layout
returns-in_err-check_calls-clause-reads_the_layout c = reads_the_layout c.args.bytes.now c.type_inv.bytes

pub returns-in_err-check_calls-clause-faults_where_it_breaks_off : goal.returns-in_err-check_calls-clause-faults_where_it_breaks_off
returns-in_err-check_calls-clause-faults_where_it_breaks_off c = faults_where_it_breaks_off c.args.bytes.now c.type_inv.bytes

pub returns-in-Err-clause-reads_the_layout : goal.returns-in-Err-clause-reads_the_layout
returns-in-Err-clause-reads_the_layout c = reads_the_layout c.args.bytes.now c.type_inv.bytes

pub returns-in-Err-clause-faults_where_it_breaks_off : goal.returns-in-Err-clause-faults_where_it_breaks_off
returns-in-Err-clause-faults_where_it_breaks_off c = faults_where_it_breaks_off c.args.bytes.now c.type_inv.bytes

pub returns-clause-reads_the_layout : goal.returns-clause-reads_the_layout
returns-clause-reads_the_layout c = reads_the_layout c.args.bytes.now c.type_inv.bytes

pub returns-clause-faults_where_it_breaks_off : goal.returns-clause-faults_where_it_breaks_off
returns-clause-faults_where_it_breaks_off c = faults_where_it_breaks_off c.args.bytes.now c.type_inv.bytes

pub returns-clause-answers_the_reading : goal.returns-clause-answers_the_reading
returns-clause-answers_the_reading c =
    let none : length c.loop-rest.rest.now ≡ 0 = search rules in
    written_is_read _ _ _ (done _ _ _ _ c.loop-rest.invariant none)

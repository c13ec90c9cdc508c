-- A sound schedule has few calls; and every log is lawful.
use Rattle.std.proofs.Common.{vec_items, arith}
use Rattle.oracle.proofs.Few.{few_calls}
use Rattle.oracle.proofs.Lawful.{log_is_lawful}
use Rattle.oracle.proofs.reference_log.Goals as goal

pub add_run-requires : goal.add_run-requires
add_run-requires c =
    let few = few_calls c.args.bytes.now c.in-Ok.ensures.reads_the_layout c.in-Ok.schedule.end (vec_items c.in-Ok.schedule.calls) c.in-Ok.ensures.answers_the_reading in
    omega (arith, few)

pub returns-in_err-add_run-in-Ok-clause-log_is_lawful : goal.returns-in_err-add_run-in-Ok-clause-log_is_lawful
returns-in_err-add_run-in-Ok-clause-log_is_lawful c = log_is_lawful c.args.bytes.now

pub returns-in-Err-NoMemory-clause-log_is_lawful : goal.returns-in-Err-NoMemory-clause-log_is_lawful
returns-in-Err-NoMemory-clause-log_is_lawful c = log_is_lawful c.args.bytes.now

pub returns-clause-log_is_lawful : goal.returns-clause-log_is_lawful
returns-clause-log_is_lawful c = log_is_lawful c.args.bytes.now

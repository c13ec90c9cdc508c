-- The run starts tied to the machine, each turn keeps that, and it says all at the end.
use Rattle.std.proofs.Common.{length, ap, arith}
use Rattle.sequential.proofs.Goings as run
use Rattle.sequential.proofs.machine.run.Goals as goal

pub loop-ended-init : goal.loop-ended-init
loop-ended-init g c =
    run.going_start g.R.Rack.rules c.args.end c.args.starts.now _ _ _ _ _
    (g.R.Rack.rows c.args.rack.now) c.begin_all.ensures (omega arith)
    (length c.row-held.result.now) (ap length c.row-held.ensures)

pub returns-in-Err-clause-log_is_lawful : goal.returns-in-Err-clause-log_is_lawful
returns-in-Err-clause-log_is_lawful g c = run.lawful_log _ _ _ _ _ _ _ _ _ _ _ _ _ _ c.loop-ended.invariant

pub append-held-requires : goal.append-held-requires
append-held-requires g c =
    let free = run.places_free _ _ _ _ _ _ _ _ _ _ _ _ _ _ c.loop-ended.invariant _ c.loop-ended.auto.pending c.in-Ok.message c.in-Ok.ensures in
    omega (arith, free, c.discard-left.ensures.answer, c.discard-left.auto.pending)

pub loop-ended-preserved : goal.loop-ended-preserved
loop-ended-preserved g c =
    run.going_turn _ _ _ _ _ _ _ _ _ _ _ _ _ _ c.loop-ended.invariant _ c.loop-ended.auto.pending c.in-Ok.message c.in-Ok.ensures
    (g.met.R.Rack.level c.begin_all.new.self) (omega (arith, c.min-lines.ensures)) _ _ _ _ _ _ _
    c.discard-left.ensures.answer c.discard-left.ensures.after c.advance-batch.ensures.left c.advance-batch.ensures.answer c.advance-batch.ensures.counted
    c.append-held.ensures.answer c.append-held.ensures.after (omega (arith, c.append-held.auto.pending, c.discard-left.auto.pending))

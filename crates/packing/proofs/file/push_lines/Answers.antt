-- One call more.
use Rattle.packing.proofs.Listings.{written_more}
use Rattle.packing.proofs.file.push_lines.Goals as goal

pub loop-call-preserved : goal.loop-call-preserved
loop-call-preserved c =
    let read = rw c.in-Ok-Some.field-0-is at c.in-Ok-Some.ensures in
    written_more _ _ _ _ _ _ _ c.loop-call.invariant read.0 read.1 c.in_ok-push_call.ensures

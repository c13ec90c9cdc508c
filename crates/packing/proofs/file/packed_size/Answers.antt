-- A line at fault, a file too long, and one call more.
use Rattle.std.proofs.Common.{◌+◌, ◌<◌, ◌≤◌, rules}
use Rattle.std.proofs.lemmas.Result.{err_from_is_err_and}
use Rattle.packing.proofs.Listings.{unnumbered, measured_more, bad_line, refuses_size}
use Rattle.packing.proofs.file.packed_size.Goals as goal

pub returns-in_err-call : goal.returns-in_err-call
returns-in_err-call c =
    let p = err_from_is_err_and c.from_residual.result c.from_residual.ensures.1 in
    rw (p.1, p.2) (bad_line _ _ c.loop-call.rest.now _ _ c.next_call.result _ c.loop-call.invariant c.in_err-call.ensures c.next_call.ensures)

pub returns-then-size-gt-MOST_BYTES : goal.returns-then-size-gt-MOST_BYTES
returns-then-size-gt-MOST_BYTES c =
    let next = rw (unnumbered _ _ c.next_call.result c.in_ok-call.ensures) at c.next_call.ensures in
    let read = rw c.in-Some.is at next in
    let large : 60000 < c.loop-call.size + c.call_size-size.result = search rules in
    refuses_size _ _ _ _ _ _ _ c.loop-call.invariant read.0 read.1 c.call_size-size.ensures large

pub loop-call-preserved : goal.loop-call-preserved
loop-call-preserved c =
    let next = rw (unnumbered _ _ c.next_call.result c.in_ok-call.ensures) at c.next_call.ensures in
    let read = rw c.in-Some.is at next in
    let small : c.loop-call.size + c.call_size-size.result ≤ 60000 = search rules in
    measured_more _ _ _ _ _ _ _ c.loop-call.invariant read.0 read.1 c.call_size-size.ensures small

-- What is behind the first events' sends in the out-row.
use Rattle.std.proofs.Common.{◌-◌, ◌≤◌, length, drop, ap, ◌∙◌, arith, length-drop}
use Rattle.std.proofs.lemmas.List.{take_all}
use Rattle.rows.specs.Held.{held}
use Rattle.queues.specs.Memory.{messages_of}
use Rattle.queues.proofs.Memories.{sends_kept, sum_take_le}
use Rattle.queues.proofs.Events.{kept_within}
use Rattle.queues.proofs.Changes.{recalled_is}
use Rattle.queues.proofs.board.BoardQueues.sends_from.Goals as goal

within : (c : goal.After-sent_by) → c.sent_by.result ≤ length (held c.args.self.now.outputs)
within c = let q = c.args.self.now in omega (arith, c.sent_by.ensures, sends_kept q c.args.stay, sum_take_le (held q.sends) c.args.stay, q.tallies)

pub offset_bounds-as_slice-sent_by : goal.offset_bounds-as_slice-sent_by
offset_bounds-as_slice-sent_by c = omega (arith, within c, kept_within c.args.self.now)

pub slice_bounds-result-count : goal.slice_bounds-result-count
slice_bounds-result-count c = omega (arith, within c, ap length c.as_slice.ensures)

pub slice_bounds-result-start : goal.slice_bounds-result-start
slice_bounds-result-start c = omega (arith, within c, ap length c.as_slice.ensures)

pub returns : goal.returns
returns c =
    let q = c.args.self.now in
    let k = c.sent_by.result in
    let row = c.as_slice.result.now in
    ap messages_of (take_all (length row - k) (drop k row) (omega (arith, length-drop k row)) ∙ ap (drop k) c.as_slice.ensures) ∙ recalled_is q c.args.stay k c.sent_by.ensures

-- The least of two rows one after the other.
use Rattle.std.proofs.Common.{◌≡◌, Option, sym, ap, ◌∙◌}
use Rattle.rows.specs.Rows.{lesser, least}
use Rattle.bus.specs.declared.Message.{Message}
use Rattle.bus.specs.Order.{message_before}
use Rattle.queues.specs.Entries.{queues_of}
use Rattle.queues.specs.Outlooks.{least_onto}
use Rattle.queues.proofs.Outlooks.{lesser_least, onto_append}
use Rattle.queues.proofs.board.BoardQueues.outlook.Goals as goal

pub returns : goal.returns
returns c =
    let q = queues_of c.args.self.now in
    let rest = c.args.rest in
    let inner : c.lesser.result ≡ least_onto q.early rest =
    c.lesser.ensures ∙ ap (λ (o : Option Message). lesser message_before o rest) (c.least-early.ensures ∙ ap (least message_before) c.as_slice.ensures) ∙ lesser_least q.early rest in
    c.lesser-2.ensures ∙ ap (λ (o : Option Message). lesser message_before o c.lesser.result) (c.least-open.ensures ∙ ap (least message_before) c.open_ones.ensures)
    ∙ lesser_least q.open_ones c.lesser.result ∙ ap (least_onto q.open_ones) inner ∙ sym (onto_append q.open_ones q.early rest)

-- The place among the standing messages.
use Rattle.std.proofs.Common.{length, ap, ◌∙◌, arith}
use Rattle.std.proofs.lemmas.List.{take_all}
use Rattle.rows.specs.Rows.{place_of}
use Rattle.bus.specs.Order.{message_before}
use Rattle.queues.specs.Entries.{queues_of}
use Rattle.queues.proofs.Searches.{placed_is}
use Rattle.queues.proofs.board.BoardQueues.place.Goals as goal

pub returns : goal.returns
returns c =
    let row = c.standing_ones-standing.result.now in
    c.place.ensures ∙ ap (place_of message_before c.args.message.now) (take_all (length row) row (omega arith) ∙ c.standing_ones-standing.ensures)
    ∙ placed_is (queues_of c.args.self.now).standing c.args.message.now

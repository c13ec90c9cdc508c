-- The counts of the first events add up to what they sent.
use Rattle.std.proofs.Common.{length, take, sym, ap, ◌∙◌, arith}
use Rattle.std.proofs.lemmas.List.{take_all}
use Rattle.queues.specs.Sums.{sum}
use Rattle.model.specs.State.{sends_of}
use Rattle.queues.specs.Entries.{queues_of}
use Rattle.queues.proofs.Memories.{sends_kept, sends_all, standing_length}
use Rattle.queues.proofs.board.BoardQueues.sent_by.Goals as goal

pub returns-then-stay-sends : goal.returns-then-stay-sends
returns-then-stay-sends c =
    c.total.ensures ∙ ap (λ l. sum (take c.args.stay l)) c.as_slice-sends.ensures ∙ sym (sends_kept c.args.self.now c.args.stay)

pub returns-else-stay-sends : goal.returns-else-stay-sends
returns-else-stay-sends c =
    let q = c.args.self.now in
    let es = (queues_of q).standing in
    c.len.ensures ∙ sym (ap (λ x. length (sends_of x)) (take_all c.args.stay es (omega (arith, standing_length q, ap length c.as_slice-sends.ensures))) ∙ sends_all q)

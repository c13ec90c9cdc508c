-- No note, or two, each cut to the places there are.
use Rattle.std.proofs.Common.{[], ◌∷◌, ◌++◌, take, sym, ap, ◌∙◌}
use Rattle.std.proofs.lemmas.List.{take_all, append-nil}
use Rattle.rows.specs.Held.{held}
use Rattle.rows.proofs.Within.{held_within}
use Rattle.addressing.specs.Batches.{Batch}
use Rattle.bus.specs.Reactions.{listed}
use Rattle.bus.specs.declared.Sent.{Sent}
use Rattle.queues.specs.Memory.{sent_by}
use Rattle.queues.proofs.Joins.{cut_more}
use Rattle.queues.proofs.notes.note_sent.Goals as goal

pub returns-in-Nothing : goal.returns-in-Nothing
returns-in-Nothing c =
    let row = held c.args.row.now in
    sym (ap (λ (b : Batch). take 64 (row ++ sent_by c.args.cause (listed b))) c.in-Nothing.is ∙ ap (take 64) (append-nil row) ∙ take_all 64 row (held_within c.args.row.now))

pub returns-in-Two : goal.returns-in-Two
returns-in-Two c =
    let row = held c.args.row.now in
    let first : Sent = record { message = c.in-Two.first; cause = c.args.cause } in
    let second : Sent = record { message = c.in-Two.second; cause = c.args.cause } in
    c.push-in-Two-2.ensures ∙ cut_more 64 row (first ∷ []) second (held c.push-in-Two.new.self) c.push-in-Two.ensures
    ∙ sym (ap (λ (b : Batch). take 64 (row ++ sent_by c.args.cause (listed b))) c.in-Two.is)

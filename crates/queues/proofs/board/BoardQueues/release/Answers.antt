-- The first equal early anti-message goes.
use Rattle.std.proofs.Common.{List, refl, sym, ap, ◌∙◌}
use Rattle.rows.specs.Held.{held}
use Rattle.rows.specs.Rows.{first_of}
use Rattle.rows.proofs.Found.{without_first}
use Rattle.bus.specs.declared.Message.{Message}
use Rattle.bus.specs.Order.{message_before}
use Rattle.model.specs.State.{Queues}
use Rattle.queues.specs.Entries.{queues_of}
use Rattle.queues.proofs.Searches.{not_found}
use Rattle.queues.proofs.Same.{same_queues}
use Rattle.queues.proofs.board.BoardQueues.release.Goals as goal

pub returns-in-Some : goal.returns-in-Some
returns-in-Some c =
    let q = c.args.self.now in
    let m = c.args.message.now in
    let left = c.remove.ensures ∙ without_first message_before m (held q.early) c.in-Some.at (sym (c.in-Some.ensures ∙ ap (first_of message_before m) c.as_slice.ensures)) in
    same_queues _ _ _ _ _ _ _ _ _ _ refl refl refl left refl

pub returns-in_default : goal.returns-in_default
returns-in_default c =
    let q = c.args.self.now in
    let m = c.args.message.now in
    let F : List Message → Queues = λ y. record { standing = (queues_of q).standing; open_ones = (queues_of q).open_ones; early = y; sent = q.sent } in
    sym (ap F (not_found m (held q.early) (c.in_default.ensures ∙ ap (first_of message_before m) c.as_slice.ensures)))

-- The first equal open message goes; what stands is left.
use Rattle.std.proofs.Common.{◌≡◌, ◌+◌, List, ◌++◌, length, take, drop, Some, refl, sym, ap, ◌∙◌, subst, arith, length-drop}
use Rattle.rows.specs.Held.{held}
use Rattle.rows.specs.Rows.{first_of, without, without_one}
use Rattle.rows.specs.Theorems.{FoundTold}
use Rattle.rows.proofs.Found.{first_told, without_first}
use Rattle.bus.specs.Order.{message_before}
use Rattle.bus.specs.declared.Message.{Message}
use Rattle.model.specs.State.{Queues}
use Rattle.queues.specs.Entries.{queues_of}
use Rattle.queues.proofs.Memories.{standing_length}
use Rattle.queues.proofs.Searches.{not_found}
use Rattle.queues.proofs.Same.{same_queues, open_part, without_behind}
use Rattle.queues.proofs.board.BoardQueues.withdraw.Goals as goal

pub overflow_add-standing : goal.overflow_add-standing
overflow_add-standing c =
    let q = c.args.self.now in
    let M = held q.messages in
    let O = drop (length (held q.sends)) M in
    let m = c.args.message.now in
    let found : first_of message_before m O ≡ Some c.in-Some.at = sym (c.in-Some.ensures ∙ ap (first_of message_before m) c.open_ones.ensures) in
    let told = subst (FoundTold message_before m O) found (first_told message_before m O) in
    omega (arith, told.0, c.standing-standing.ensures, standing_length q, length-drop (length (held q.sends)) M, q.fits, q.stands)

pub returns-in-Some : goal.returns-in-Some
returns-in-Some c =
    let q = c.args.self.now in
    let M = held q.messages in
    let s = length (held q.sends) in
    let O = drop s M in
    let m = c.args.message.now in
    let found : first_of message_before m O ≡ Some c.in-Some.at = sym (c.in-Some.ensures ∙ ap (first_of message_before m) c.open_ones.ensures) in
    let left : held c.remove.new.self ≡ take s M ++ without_one message_before m O =
    c.remove.ensures ∙ ap (λ k. without (k + c.in-Some.at) M) (c.standing-standing.ensures ∙ standing_length q) ∙ without_behind M s c.in-Some.at
    ∙ ap (λ zs. take s M ++ zs) (without_first message_before m O c.in-Some.at found) in
    same_queues _ _ _ _ _ _ _ _ _ _ left refl refl refl refl ∙ open_part M _ (held q.sends) (held q.outputs) (held q.early) q.sent q.stands

pub returns-in_default : goal.returns-in_default
returns-in_default c =
    let q = c.args.self.now in
    let O = drop (length (held q.sends)) (held q.messages) in
    let m = c.args.message.now in
    let F : List Message → Queues = λ y. record { standing = (queues_of q).standing; open_ones = y; early = held q.early; sent = q.sent } in
    sym (ap F (not_found m O (c.in_default.ensures ∙ ap (first_of message_before m) c.open_ones.ensures)))

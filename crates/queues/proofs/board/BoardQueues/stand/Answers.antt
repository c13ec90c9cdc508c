-- One more event, and its sends at the end of the out-row.
use Rattle.std.proofs.Common.{◌≡◌, ℕ, ◌<◌, ◌≤◌, List, [], ◌∷◌, ◌++◌, length, take, drop, refl, ap, ◌∙◌, arith, length-append, length-drop}
use Rattle.std.proofs.lemmas.List.{take_all, length-map, map-append}
use Rattle.rows.specs.Held.{held}
use Rattle.bus.specs.declared.Message.{Message}
use Rattle.bus.specs.declared.Sent.{Sent}
use Rattle.bus.specs.Reactions.{listed}
use Rattle.model.specs.State.{Queues}
use Rattle.queues.specs.Sums.{sum}
use Rattle.queues.specs.Memory.{messages_of, sent_by}
use Rattle.queues.specs.Entries.{events, outputs_of}
use Rattle.queues.proofs.Events.{sum_twos, sum_push, batch_small, stand_is, messages_sent_by}
use Rattle.queues.proofs.Memories.{tally}
use Rattle.queues.proofs.Sheds.{small_push}
use Rattle.queues.proofs.Same.{same_queues, first_is, twos_by}
use Rattle.queues.proofs.board.BoardQueues.stand.Goals as goal

-- the first open message
at_hand : (c : goal.After-push) → drop (length (held c.args.self.now.sends)) (held c.args.self.now.messages) ≡ c.in-Some.cause ∷ drop 1 (drop (length (held c.args.self.now.sends)) (held c.args.self.now.messages))
at_hand c = first_is _ c.in-Some.cause c.in-Some.ensures

fewer : (c : goal.After-push) → length (held c.args.self.now.sends) < length (held c.args.self.now.messages)
fewer c = let q = c.args.self.now in omega (arith, ap length (at_hand c), length-drop (length (held q.sends)) (held q.messages))

counted : (c : goal.After-push) → held c.push.new.self ≡ held c.args.self.now.sends ++ length (listed c.args.out.now) ∷ []
counted c =
    let q = c.args.self.now in
    let ns = held q.sends in
    c.push.ensures ∙ take_all 32 (ns ++ c.len.result ∷ []) (omega (arith, length-append ns (c.len.result ∷ []), fewer c, q.fits)) ∙ ap (λ (n : ℕ). ns ++ n ∷ []) c.len.ensures

noted : (c : goal.After-push) → held c.note_sent.new.row ≡ held c.args.self.now.outputs ++ sent_by c.in-Some.cause (listed c.args.out.now)
noted c =
    let q = c.args.self.now in
    let new = sent_by c.in-Some.cause (listed c.args.out.now) in
    let by : Message → Sent = λ m. record { message = m; cause = c.in-Some.cause } in
    let room : length (held q.outputs ++ new) ≤ 64 =
    omega (arith, length-append (held q.outputs) new, length-map (listed c.args.out.now) by, batch_small c.args.out.now, sum_twos (held q.sends) (length (held q.sends)) q.twos, ap sum (take_all (length (held q.sends)) (held q.sends) (omega arith)), q.tallies, fewer c, q.fits) in
    c.note_sent.ensures ∙ take_all 64 (held q.outputs ++ new) room

pub invariant_of-self : goal.invariant_of-self
invariant_of-self c =
    let q = c.args.self.now in
    let ns = held q.sends in
    let n = length (listed c.args.out.now) in
    let by : Message → Sent = λ m. record { message = m; cause = c.in-Some.cause } in
    record {
      fits = q.fits;
      stands = omega (arith, ap length (counted c), length-append ns (n ∷ []), fewer c);
      tallies = omega (arith, ap sum (counted c), sum_push ns n, ap length (noted c), length-append (held q.outputs) (sent_by c.in-Some.cause (listed c.args.out.now)), length-map (listed c.args.out.now) by, q.tallies);
      twos = twos_by _ _ (counted c) (small_push ns n q.twos (batch_small c.args.out.now));
    }

pub returns-in-Some : goal.returns-in-Some
returns-in-Some c =
    let q = c.args.self.now in
    let ns = held q.sends in
    let M = held q.messages in
    let new = listed c.args.out.now in
    let f : Sent → Message = λ s. s.message in
    let told : messages_of (held q.outputs ++ sent_by c.in-Some.cause new) ≡ outputs_of q ++ new =
    map-append f (held q.outputs) (sent_by c.in-Some.cause new) ∙ ap (λ zs. outputs_of q ++ zs) (messages_sent_by c.in-Some.cause new) in
    let F : List Message → Queues = λ x. record { standing = events (take (length (ns ++ length new ∷ [])) M) (ns ++ length new ∷ []) x; open_ones = drop (length (ns ++ length new ∷ [])) M; early = held q.early; sent = q.sent } in
    same_queues _ _ _ _ _ _ _ _ _ _ refl (counted c.before) (noted c.before) refl refl ∙ ap F told
    ∙ stand_is M ns (outputs_of q) c.in-Some.cause _ (held q.early) q.sent new (at_hand c.before) q.stands (tally q)

-- One more anti-message, cut to the places there are.
use Rattle.std.proofs.Common.{◌≡◌, [], ◌∷◌, ◌++◌, map, get_or, take, sym, ap, ◌∙◌, arith}
use Rattle.std.proofs.lemmas.List.{take_all, append-nil, get_or_default}
use Rattle.rows.proofs.Within.{held_within}
use Rattle.bus.specs.declared.Sent.{Sent}
use Rattle.model.specs.Deliver.{no_message}
use Rattle.model.specs.declared.item.Item.{Item}
use Rattle.model.specs.declared.item.Item.TheVariants.{Minus}
use Rattle.queues.specs.Memory.{messages_of}
use Rattle.queues.specs.Transits.{on_way}
use Rattle.queues.proofs.Joins.{cut_more, minus_more}
use Rattle.queues.proofs.transit.Transit.recall.Goals as goal

pub loop-sent-init : goal.loop-sent-init
loop-sent-init c =
    let t = c.args.self.now in
    sym (ap (take 128) (append-nil (on_way t)) ∙ take_all 128 (on_way t) (held_within t.items))

pub loop-sent-preserved : goal.loop-sent-preserved
loop-sent-preserved c =
    let i = c.loop-sent.sent-index in
    let start = on_way c.args.self.now in
    let so_far = map Minus (messages_of (take i c.args.sends.now)) in
    let d : Sent = record { message = no_message; cause = no_message } in
    let x = Minus (get_or c.args.sends.now i d).message in
    let read : x ≡ Minus (get_or c.args.sends.now i _).message = ap (λ (s : Sent). Minus s.message) (get_or_default c.args.sends.now i d _ (omega arith)) in
    c.push.ensures ∙ ap (λ (z : Item). take 128 (on_way c.loop-sent.self ++ z ∷ [])) (sym read)
    ∙ cut_more 128 start so_far x (on_way c.loop-sent.self) c.loop-sent.invariant
    ∙ ap (λ zs. take 128 (start ++ zs)) (sym (minus_more c.args.sends.now i d (omega arith)))

pub returns : goal.returns
returns c =
    c.loop-sent.invariant
    ∙ ap (λ zs. take 128 (on_way c.args.self.now ++ map Minus (messages_of zs))) (take_all c.loop-sent.sent-index c.args.sends.now (omega arith))

-- One item further to the front.
use Rattle.std.proofs.Common.{◌≡◌, List, map, reverse, None, refl, ◌∙◌, arith}
use Rattle.std.specs.List.{fold}
use Rattle.std.proofs.lemmas.Grind.{common_steps}
use Rattle.model.specs.declared.item.Item.{Item}
use Rattle.rows.specs.Rows.{nearer, least}
use Rattle.rows.proofs.Folds.{folded_back}
use Rattle.bus.specs.Order.{message_before}
use Rattle.model.specs.State.{inside}
use Rattle.queues.specs.Transits.{on_way}
use Rattle.queues.proofs.transit.Transit.least.Goals as goal

pub returns : goal.returns
returns c =
    let e : c.rfold.result ≡ fold (λ best (x : Item). nearer message_before (inside x) best) None (reverse (on_way c.args.self.now)) = grind (arith, common_steps) in
    e ∙ folded_back (λ (xs : List Item). least message_before (map inside xs)) (λ best x. nearer message_before (inside x) best) None refl (λ x xs. refl) (on_way c.args.self.now)

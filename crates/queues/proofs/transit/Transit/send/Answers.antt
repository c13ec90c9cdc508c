-- No message, or two, each cut to the places there are.
use Rattle.std.proofs.Common.{[], ◌∷◌, ◌++◌, map, take, sym, ap, ◌∙◌}
use Rattle.std.proofs.lemmas.List.{take_all, append-nil}
use Rattle.rows.specs.Held.{held}
use Rattle.rows.proofs.Within.{held_within}
use Rattle.addressing.specs.Batches.{Batch}
use Rattle.bus.specs.Reactions.{listed}
use Rattle.model.specs.declared.item.Item.TheVariants.{Plus}
use Rattle.queues.specs.Transits.{on_way}
use Rattle.queues.proofs.Joins.{cut_more}
use Rattle.queues.proofs.transit.Transit.send.Goals as goal

pub returns-in-Nothing : goal.returns-in-Nothing
returns-in-Nothing c =
    let t = c.args.self.now in
    sym (ap (λ (b : Batch). take 128 (on_way t ++ map Plus (listed b))) c.in-Nothing.is
    ∙ ap (take 128) (append-nil (on_way t)) ∙ take_all 128 (on_way t) (held_within t.items))

pub returns-in-Two : goal.returns-in-Two
returns-in-Two c =
    let t = on_way c.args.self.now in
    c.push-in-Two-2.ensures ∙ cut_more 128 t (Plus c.in-Two.first ∷ []) (Plus c.in-Two.second) (held c.push-in-Two.new.self) c.push-in-Two.ensures
    ∙ sym (ap (λ (b : Batch). take 128 (t ++ map Plus (listed b))) c.in-Two.is)

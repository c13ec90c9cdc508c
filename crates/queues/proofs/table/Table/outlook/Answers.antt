-- One board further to the front.
use Rattle.std.proofs.Common.{◌≡◌, List, map, reverse, refl, ◌∙◌, arith}
use Rattle.std.specs.List.{fold}
use Rattle.std.proofs.lemmas.Grind.{common_steps}
use Rattle.rows.proofs.Folds.{folded_back}
use Rattle.queues.specs.declared.board.BoardQueues.{BoardQueues}
use Rattle.queues.specs.Outlooks.{least_onto}
use Rattle.model.specs.State.{flat}
use Rattle.model.specs.Outlook.{open_and_early}
use Rattle.queues.specs.Entries.{queues_of}
use Rattle.queues.proofs.Outlooks.{onto_append}
use Rattle.queues.proofs.table.Table.outlook.Goals as goal

pub returns : goal.returns
returns c =
    let e : c.rfold.result ≡ fold (λ best (b : BoardQueues). least_onto (open_and_early (queues_of b)) best) c.args.rest (reverse c.args.self.now.entries) = grind (arith, common_steps) in
    e
    ∙ folded_back (λ (bs : List BoardQueues). least_onto (flat (map open_and_early (map queues_of bs))) c.args.rest) (λ best b. least_onto (open_and_early (queues_of b)) best) c.args.rest refl (λ b bs. onto_append (open_and_early (queues_of b)) (flat (map open_and_early (map queues_of bs))) c.args.rest) c.args.self.now.entries

-- The library's sum is the sum.
use Rattle.std.proofs.Common.{◌≡◌, refl, sym, ◌∙◌, rules}
use Rattle.std.proofs.lemmas.List.Recursion.{is_sum_by}
use Rattle.std.specs.List as lists
use Rattle.queues.specs.Sums.{sum}
use Rattle.queues.proofs.sums.total.Goals as goal

pub returns : goal.returns
returns c =
    let e : c.sum.result ≡ lists.sum c.args.counts.now = search rules in
    e ∙ sym (is_sum_by sum (λ x. x) refl (λ _ _. refl) c.args.counts.now)

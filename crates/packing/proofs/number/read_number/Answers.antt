-- The first digit, a zero before another digit, and one digit more.
use Rattle.std.proofs.Common.{◌≡◌, ◌<◌, ◌++◌, Some, sym, refl, ap, ◌∙◌, inl, inr, arith, rules}
use Rattle.std.proofs.lemmas.Fmt.{decimal_digit}
use Rattle.packing.proofs.Numerals.{number_more, leading_zero}
use Rattle.packing.proofs.number.read_number.Goals as goal

pub loop-number-init : goal.loop-number-init
loop-number-init g c =
    let is : c.digit.result ≡ Some (c.in_ok-first.first, c.in_ok-first.rest) = grind arith in
    let opened = rw is at c.digit.ensures in
    let one = decimal_digit c.in_ok-first.first opened.1 in
    rw c.from-value.ensures (opened.0 ∙ ap (λ l. l ++ c.in_ok-first.rest.now) (sym one), omega (arith, opened.1))

pub returns-then-value-eq0 : goal.returns-then-value-eq0
returns-then-value-eq0 g c =
    let opened = c.in-Some-digit.ensures in
    inl (refl, inr (leading_zero _ _ _ _ c.loop-number.value c.loop-number.invariant.0 c.if-value-eq0.true opened.0 opened.1))

pub loop-number-preserved : goal.loop-number-preserved
loop-number-preserved g c =
    let opened = c.in-Some-digit.ensures in
    let ten = opened.1 in
    let some : 0 < c.loop-number.value = search rules in
    let fitted = c.in-Some.ensures in
    let below = fitted.1 in
    let fits = g.met.N.Narrow.most_is_small in
    rw c.from.ensures (number_more _ _ _ _ _ some ten (omega arith) c.loop-number.invariant.0 opened.0, omega arith)

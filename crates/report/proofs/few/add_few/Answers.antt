-- A turn puts a byte and a number before what stands at the line's end.
use Rattle.std.proofs.Common.{◌≡◌, ◌<◌, ◌∷◌, ◌++◌, length, drop, IsAscii, decimal, rules, IsUtf8, [], length-append, length-drop, arith, ℕ, ◌+◌, length-set, sym, ap, ◌∙◌, subst}
use Rattle.std.proofs.lemmas.Fmt.{decimal_nonempty, length-decimal-le, IsAscii-decimal}
use Rattle.std.proofs.lemmas.List.{length_push}
use Rattle.std.proofs.lemmas.Str.{IsAscii-append, IsUtf8-from_ascii}
use Rattle.std.proofs.lemmas.Str.Ascii.{IsAscii-cons}
use Rattle.bus.specs.Lines.{spaced}
use Rattle.report.proofs.Fronts.{front_less, member_fits, others_more, byte_before, from_all}
use Rattle.report.proofs.Spaced.{tail, separator, separator_small, tail_more, tail_whole}
use Rattle.report.proofs.few.add_few.Goals as goal

pub write_digits-start-requires : goal.write_digits-start-requires
write_digits-start-requires c =
    let rest = c.loop-number.number-iterator.iter.rest.now in
    let fits = member_fits c.args.numbers.now rest _ c.in-Some.number.now c.loop-number.invariant.front c.in-Some.ensures.steps c.type_inv.numbers in
    let less : length rest ≡ length c.next.new.self.iter.rest.now + 1 = ap length c.in-Some.ensures.steps ∙ length_push _ _ in
    (omega (arith, length-decimal-le 20 c.in-Some.number.now (omega arith) (omega arith) fits), omega (arith, length-set {A = ℕ}))

pub loop-number-preserved : goal.loop-number-preserved
loop-number-preserved c =
    let l = c.loop-number in
    let n = c.in-Some.number.now in
    let rest = l.number-iterator.iter.rest.now in
    let done = drop (length rest) c.args.numbers.now in
    let others = others_more c.args.numbers.now rest _ n l.invariant.front c.in-Some.ensures.steps in
    let fits = member_fits c.args.numbers.now rest _ n l.invariant.front c.in-Some.ensures.steps c.type_inv.numbers in
    let less : length rest ≡ length c.next.new.self.iter.rest.now + 1 = ap length c.in-Some.ensures.steps ∙ length_push _ _ in
    let digits = length-decimal-le 20 n (omega arith) (omega arith) fits in
    let byte = byte_before l.line l.start l.separator (omega arith) (omega arith) in
    let wrote = c.write_digits-start.ensures.written ∙ ap (λ t. decimal n ++ t) byte in
    let small : l.separator < 128 = subst (λ k. k < 128) (sym l.invariant.between) (separator_small c.args.behind done c.requires.ascii) in
    record {
      front = front_less c.args.numbers.now rest _ n l.invariant.front c.in-Some.ensures.steps;
      room = omega (arith, digits);
      within = omega arith;
      long = omega (arith, simp (length-append, length-drop) at (ap length c.write_digits-start.ensures.written), decimal_nonempty n fits, length-set {A = ℕ});
      put = wrote
          ∙ ap (λ t. decimal n ++ (l.separator ∷ t)) l.invariant.put
          ∙ ap (λ k. decimal n ++ (k ∷ tail c.args.behind done)) l.invariant.between
          ∙ sym (tail_more c.args.behind n done)
          ∙ sym (ap (tail c.args.behind) others);
      between = sym (ap (separator c.args.behind) others);
      ascii = subst IsAscii (sym wrote) (IsAscii-append (decimal n) _ (IsAscii-decimal n fits) (IsAscii-cons l.separator _ small l.invariant.ascii));
    }

pub from_utf8_unchecked-requires : goal.from_utf8_unchecked-requires
from_utf8_unchecked-requires c =
    let l = c.loop-number in
    subst IsUtf8 (sym (from_all l.line l.start 126 l.invariant.long)) (IsUtf8-from_ascii _ l.invariant.ascii)

pub returns : goal.returns
returns c =
    let l = c.loop-number in
    let none : length l.number-iterator.iter.rest.now ≡ 0 = c.in-None.ensures.steps.0 in
    let value : c.from_utf8_unchecked.result.now ≡ spaced c.args.numbers.now ++ c.args.behind ∷ [] =
    c.from_utf8_unchecked.ensures ∙ from_all l.line l.start 126 l.invariant.long ∙ l.invariant.put
    ∙ ap (λ k. tail c.args.behind (drop k c.args.numbers.now)) none
    ∙ tail_whole c.args.behind c.args.numbers.now c.requires.some in
    search rules

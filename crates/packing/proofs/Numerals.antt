-- A number at the front of a text is read in one way.
use Rattle.std.proofs.Common.{◌≡◌, ℕ, ◌+◌, ◌*◌, ◌/◌, ◌%◌, ◌^◌, ◌<◌, ◌≤◌, ◌⊎◌, List, [], ◌∷◌, ◌++◌, length, get_or, take, decimal, sym, refl, ap, ◌∙◌, subst, inl, inr, ⊎_elim, append_assoc, arith}
use mathlib.Core.List.{append_cancel_left}
use Rattle.std.proofs.lemmas.List.{get_or_append_left}
use Rattle.std.proofs.lemmas.Fmt.{decimal_digit, decimal_step, decimal_nonempty, first_decimal, digits_decimal, digits_value-decimal}
use Rattle.std.proofs.lemmas.Str.Parse.{IsNumeralModel, digit_from_value, numerals_by_value, tells_digits, digits_value-take-le}
use Rattle.std.proofs.Math.Seq.{take-append_seam}
use Rattle.std.specs.Str.Parse.{AllDigits, digits_value}
use Rattle.packing.specs.declared.error.Why.{Why}
use Rattle.packing.specs.Wrong.{NoDigit, LeadingZero, Above, NumberFault}

-- one digit more
pub decimal_grows : (value digit : ℕ) → 0 < value → digit < 10 → value * 10 + digit < 2 ^ 64 → decimal (value * 10 + digit) ≡ decimal value ++ (48 + digit) ∷ []
decimal_grows value digit some small fits =
    let front : (value * 10 + digit) / 10 ≡ value = omega arith in
    let last : (value * 10 + digit) % 10 ≡ digit = omega arith in
    decimal_step (value * 10 + digit) (omega arith) fits ∙ (λ i. decimal (front i) ++ (48 + last i) ∷ [])

pub number_more : (text : List ℕ) (value digit : ℕ) (rest after : List ℕ) → 0 < value → digit < 10 → value * 10 + digit < 2 ^ 64 → text ≡ decimal value ++ rest → rest ≡ (48 + digit) ∷ after → text ≡ decimal (value * 10 + digit) ++ after
number_more text value digit rest after some small fits laid opened =
    laid
    ∙ ap (λ l. decimal value ++ l) opened
    ∙ sym (append_assoc (decimal value) ((48 + digit) ∷ []) after)
    ∙ ap (λ l. l ++ after) (sym (decimal_grows value digit some small fits))

own : IsNumeralModel (AllDigits 10) (digits_value 10)
own = numerals_by_value (AllDigits 10) tells_digits

-- of two fronts of one text, the one that no digit follows goes on where the other, of digits, ends
longer : (ds es r s : List ℕ) → AllDigits 10 ds → NoDigit s → ds ++ r ≡ es ++ s → (extra : List ℕ) × (es ≡ ds ++ extra)
longer [] es r s digits stop e = (es, refl)
longer (d ∷ ds) [] r [] digits stop e = cc
longer (d ∷ ds) [] r (c ∷ s) digits stop e =
    let same : d ≡ c = cc in
    let digit = digit_from_value d digits.0 in
    absurd (⊎_elim (λ low. omega arith) (λ high. omega arith) stop)
longer (d ∷ ds) (c ∷ es) r s digits stop e =
    let same : d ≡ c = cc in
    let tails : ds ++ r ≡ es ++ s = cc in
    let more = longer ds es r s digits.1 stop tails in
    (more.0, (λ i. sym same i ∷ more.1 i))

-- a number whose digits go on with no digit is at least each number that the text opens with
opens_least : (m n : ℕ) (r s : List ℕ) → m < 2 ^ 64 → n < 2 ^ 64 → decimal n ++ r ≡ decimal m ++ s → NoDigit s → n ≤ m
opens_least m n r s mf nf e stop =
    let l = longer (decimal n) (decimal m) r s (digits_decimal own n nf) stop e in
    let front : take (length (decimal n)) (decimal m) ≡ decimal n = ap (take (length (decimal n))) l.1 ∙ take-append_seam (decimal n) l.0 in
    let least = digits_value-take-le 10 (decimal m) (length (decimal n)) (omega arith) in
    omega (arith, ap (digits_value 10) front, digits_value-decimal own m mf, digits_value-decimal own n nf)

pub same_number : (m n : ℕ) (r s : List ℕ) → m < 2 ^ 64 → n < 2 ^ 64 → decimal n ++ r ≡ decimal m ++ s → NoDigit r → NoDigit s → (n ≡ m) × (r ≡ s)
same_number m n r s mf nf e stop-r stop-s =
    let le = opens_least m n r s mf nf e stop-s in
    let ge = opens_least n m s r nf mf (sym e) stop-r in
    let same : n ≡ m = omega arith in
    (same, append_cancel_left (decimal m) r s (ap (λ k. decimal k ++ r) (sym same) ∙ e))

-- a number opens with a digit
opens_number : (m : ℕ) (text rest : List ℕ) → m < 2 ^ 64 → NoDigit text → text ≡ decimal m ++ rest → ⊥
opens_number m text rest small none e = opens_digit (decimal m) (digits_decimal own m small) (decimal_nonempty m small) (subst NoDigit e none)
  where
    opens_digit : (ds : List ℕ) → AllDigits 10 ds → 0 < length ds → NoDigit (ds ++ rest) → ⊥
    opens_digit [] digits some none = omega arith
    opens_digit (d ∷ ds) digits some none =
        let digit = digit_from_value d digits.0 in
        ⊎_elim (λ low. omega arith) (λ high. omega arith) none

-- where no number is read, none stands
pub no_number : (most m : ℕ) (text rest : List ℕ) (why : Why) → NumberFault most text why → m ≤ most → m < 2 ^ 64 → text ≡ decimal m ++ rest → NoDigit rest → ⊥
no_number most m text rest why (inl (is, inl none)) le small e stop = opens_number m text rest small none e
no_number most m text rest why (inl (is, inr zero)) le small e stop =
    let two_digits : (48 ∷ (48 + zero.digit) ∷ []) ++ zero.rest ≡ decimal m ++ rest = sym zero.laid ∙ e in
    let ten = zero.small in
    let digits : AllDigits 10 (48 ∷ (48 + zero.digit) ∷ []) = tells_digits.more 48 ((48 + zero.digit) ∷ []) (omega arith, omega arith) (tells_digits.more (48 + zero.digit) [] (omega arith, omega arith) tells_digits.empty) in
    let l = longer (48 ∷ (48 + zero.digit) ∷ []) (decimal m) zero.rest rest digits stop two_digits in
    let first : get_or (decimal m) 0 0 ≡ 48 = ap (λ ds. get_or ds 0 0) l.1 in
    let long = ap length l.1 in
    let positive : 0 < m → ⊥ = (λ p. let f = first_decimal m p small in omega arith) in
    let nought : m ≡ 0 = omega (arith, positive) in
    let one : length (decimal m) ≡ 1 = ap (λ k. length (decimal k)) nought ∙ ap length (decimal_digit 0 (omega arith)) in
    omega arith
no_number most m text rest why (inr (is, above)) le small e stop =
    let least = opens_least m above.number above.rest rest small above.small (sym above.laid ∙ e) stop in
    let more = above.above in
    omega arith

-- a zero, and then a digit
pub leading_zero : (text rest after : List ℕ) (digit value : ℕ) → text ≡ decimal value ++ rest → value ≡ 0 → rest ≡ (48 + digit) ∷ after → digit < 10 → LeadingZero text
leading_zero text rest after digit value laid nought opened small =
    record {
      digit = digit;
      rest = after;
      small = small;
      laid = laid ∙ ap (λ v. decimal v ++ rest) nought ∙ ap (λ l. l ++ rest) (decimal_digit 0 (omega arith)) ∙ ap (λ l. 48 ∷ l) opened;
    }

-- no number, and one that is too large
not_both : (most : ℕ) (text : List ℕ) → NoDigit text ⊎ LeadingZero text → Above most text → ⊥
not_both most text (inl none) above = opens_number above.number text above.rest above.small none above.laid
not_both most text (inr zero) above =
    let more = above.above in
    let some = decimal_nonempty above.number above.small in
    let high = first_decimal above.number (omega arith) above.small in
    let front = get_or_append_left (decimal above.number) above.rest 0 0 some in
    let same : get_or (48 ∷ (48 + zero.digit) ∷ zero.rest) 0 0 ≡ get_or (decimal above.number ++ above.rest) 0 0 = ap (λ l. get_or l 0 0) (sym zero.laid ∙ above.laid) in
    omega arith

pub number_why : (most : ℕ) (text : List ℕ) (a b : Why) → NumberFault most text a → NumberFault most text b → a ≡ b
number_why most text a b (inl x) (inl y) = x.0 ∙ sym y.0
number_why most text a b (inr x) (inr y) = x.0 ∙ sym y.0
number_why most text a b (inl x) (inr y) = absurd (not_both most text x.1 y.1)
number_why most text a b (inr x) (inl y) = absurd (not_both most text y.1 x.1)

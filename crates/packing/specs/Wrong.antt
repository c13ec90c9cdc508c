-- What is wrong with a line: the first thing that is, from the left.
use Rattle.std.specs.Prelude.{◌≡◌, ℕ, ◌+◌, ◌^◌, ◌<◌, ◌≤◌, cond, ◌⊎◌, List, [], ◌∷◌, ◌++◌, Some, None, codes, decimal, Option, ◌==◌, ◌≢◌}
use Rattle.schedule.specs.Layout.{offer_letter, deliver_letter, run_letter, outlook_letter, commit_letter}
use Rattle.packing.specs.declared.error.Why.{Why}
use Rattle.packing.specs.declared.error.Why.TheVariants.{NoEndTime, UnknownCall, NoSpace, BadNumber, TooLarge, ExtraText, NoEndOfLine}

-- the text goes on with no digit
abbrev pub NoDigit : List ℕ → Type 0
NoDigit [] = Unit {0}
NoDigit (c ∷ rest) = (c < 48) ⊎ (57 < c)

-- a zero and another digit
pub record LeadingZero (text : List ℕ) : Type 0 where
  pub digit : ℕ
  pub rest : List ℕ
  pub small : digit < 10
  pub laid : text ≡ 48 ∷ (48 + digit) ∷ rest

-- the digits of a number that is too large; more may follow
pub record Above (most : ℕ) (text : List ℕ) : Type 0 where
  pub number : ℕ
  pub rest : List ℕ
  pub above : most < number
  pub small : number < 2 ^ 64
  pub laid : text ≡ decimal number ++ rest

-- no number, or one that is too large
abbrev pub NumberFault : ℕ → List ℕ → Why → Type 0
NumberFault most text why = ((why ≡ BadNumber) × (NoDigit text ⊎ LeadingZero text)) ⊎ ((why ≡ TooLarge) × Above most text)

-- no space, or no number behind it
abbrev pub FieldFault : ℕ → List ℕ → Why → Type 0
FieldFault most [] why = why ≡ NoSpace
FieldFault most (c ∷ rest) why = ((c ≢ 32) × (why ≡ NoSpace)) ⊎ ((c ≡ 32) × NumberFault most rest why)

-- the line does not end
abbrev pub EndingFault : List ℕ → Why → Type 0
EndingFault [] why = why ≡ NoEndOfLine
EndingFault (c ∷ rest) why = (c ≢ 10) × (why ≡ ExtraText)

-- a number, and behind it something that holds
pub record PastField (most : ℕ) (text : List ℕ) (Then : List ℕ → Type 0) : Type 0 where
  pub number : ℕ
  pub rest : List ℕ
  pub within : number ≤ most
  pub laid : text ≡ 32 ∷ decimal number ++ rest
  pub no_more : NoDigit rest
  pub then : Then rest

-- one of the numbers, each with what it may be at most, or the end behind them
abbrev pub FieldsFault : List ℕ → List ℕ → Why → Type 0
FieldsFault [] text why = EndingFault text why
FieldsFault (most ∷ mosts) text why = FieldFault most text why ⊎ PastField most text (λ rest. FieldsFault mosts rest why)

-- the first line
abbrev pub FirstFault : List ℕ → Why → Type 0
FirstFault text why =
    (((rest : List ℕ) → text ≢ codes "end" ++ rest) × (why ≡ NoEndTime))
    ⊎ ((rest : List ℕ) × (text ≡ codes "end" ++ rest) × FieldsFault (4294967295 ∷ []) rest why)

-- the greatest number that fits each field of a call: 32, 16 or 8 bits; None for a letter that opens no call
abbrev pub mosts_of : ℕ → Option (List ℕ)
mosts_of letter =
    cond (letter == offer_letter) (Some (4294967295 ∷ 255 ∷ 255 ∷ 4294967295 ∷ [])) (
    cond (letter == deliver_letter) (Some (65535 ∷ [])) (
    cond (letter == run_letter) (Some (255 ∷ [])) (
    cond (letter == outlook_letter) (Some []) (
    cond (letter == commit_letter) (Some (65535 ∷ [])) None))))

-- a call's line
abbrev pub LineFault : List ℕ → Why → Type 0
LineFault [] why = why ≡ UnknownCall
LineFault (letter ∷ rest) why = elim (mosts_of letter) [ None ↦ why ≡ UnknownCall | Some mosts ↦ FieldsFault mosts rest why ]

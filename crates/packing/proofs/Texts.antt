-- A line of a listing is read in one way, and where a line is at fault, none stands.
use Rattle.std.proofs.Common.{◌≡◌, ℕ, ◌^◌, ◌<◌, ◌≤◌, cond, eqb, List, [], ◌∷◌, ◌++◌, get_or, decimal, sym, refl, ap, ◌∙◌, subst, ap₂, inl, inr, append_assoc, arith}
use Rattle.schedule.specs.declared.call.Call.{Call}
use Rattle.schedule.specs.declared.call.Call.TheVariants.{Offer, Deliver, Run, Outlook, Commit}
use Rattle.schedule.specs.Layout.{Within}
use Rattle.listing.specs.Listed.{call_line, end_line}
use Rattle.packing.specs.declared.error.Why.{Why}
use Rattle.packing.specs.Wrong.{NoDigit, FieldFault, EndingFault, FieldsFault, FirstFault, LineFault}
use Rattle.packing.proofs.Numerals.{same_number, no_number}

pub end_line_laid : (end : ℕ) (rest : List ℕ) → end_line end ++ rest ≡ 101 ∷ 110 ∷ 100 ∷ 32 ∷ decimal end ++ 10 ∷ rest
end_line_laid end rest = ap (λ l. 101 ∷ 110 ∷ 100 ∷ 32 ∷ l) (append_assoc (decimal end) (10 ∷ []) rest)

-- a call is its letter and its numbers
abbrev pub letter_of : Call → ℕ
letter_of (Offer time destination kind payload) = 111
letter_of (Deliver index) = 100
letter_of (Run board) = 114
letter_of Outlook = 103
letter_of (Commit most) = 99

abbrev pub numbers_of : Call → List ℕ
numbers_of (Offer time destination kind payload) = time ∷ destination ∷ kind ∷ payload ∷ []
numbers_of (Deliver index) = index ∷ []
numbers_of (Run board) = board ∷ []
numbers_of Outlook = []
numbers_of (Commit most) = most ∷ []

abbrev call_from : ℕ → List ℕ → Call
call_from letter numbers =
    cond (eqb letter 111) (Offer (get_or numbers 0 0) (get_or numbers 1 0) (get_or numbers 2 0) (get_or numbers 3 0)) (
    cond (eqb letter 100) (Deliver (get_or numbers 0 0)) (
    cond (eqb letter 114) (Run (get_or numbers 0 0)) (
    cond (eqb letter 103) Outlook (Commit (get_or numbers 0 0)))))

call_back : (call : Call) → call_from (letter_of call) (numbers_of call) ≡ call
call_back (Offer time destination kind payload) = refl
call_back (Deliver index) = refl
call_back (Run board) = refl
call_back Outlook = refl
call_back (Commit most) = refl

-- the numbers of a line, a space before each, the end of the line, and what follows
abbrev pub fields : List ℕ → List ℕ → List ℕ
fields [] rest = 10 ∷ rest
fields (n ∷ ns) rest = 32 ∷ decimal n ++ fields ns rest

pub call_line_laid : (call : Call) (rest : List ℕ) → call_line call ++ rest ≡ letter_of call ∷ fields (numbers_of call) rest
call_line_laid (Offer time destination kind payload) rest = simp append_assoc
call_line_laid (Deliver index) rest = simp append_assoc
call_line_laid (Run board) rest = simp append_assoc
call_line_laid Outlook rest = refl
call_line_laid (Commit most) rest = simp append_assoc

-- each number is at most what its width holds
abbrev pub UpTo : List ℕ → List ℕ → Type 0
UpTo [] [] = Unit {0}
UpTo [] (most ∷ mosts) = ⊥
UpTo (n ∷ ns) [] = ⊥
UpTo (n ∷ ns) (most ∷ mosts) = (n ≤ most) × UpTo ns mosts

-- each number is below the bound; a recursion of our own, so that it computes on a list that is written out
abbrev pub Below : ℕ → List ℕ → Type 0
Below bound [] = Unit {0}
Below bound (n ∷ ns) = (n < bound) × Below bound ns

fields_stop : (ns rest : List ℕ) → NoDigit (fields ns rest)
fields_stop [] rest = inl (omega arith)
fields_stop (n ∷ ns) rest = inl (omega arith)

same_fields : (ms ns r s : List ℕ) → Below (2 ^ 64) ms → Below (2 ^ 64) ns → fields ms r ≡ fields ns s → (ms ≡ ns) × (r ≡ s)
same_fields [] [] r s hm hn e = (refl, cc)
same_fields [] (n ∷ ns) r s hm hn e = let z : ◌≡◌ {A = ℕ} 10 32 = cc in absurd (omega arith)
same_fields (m ∷ ms) [] r s hm hn e = let z : ◌≡◌ {A = ℕ} 32 10 = cc in absurd (omega arith)
same_fields (m ∷ ms) (n ∷ ns) r s hm hn e =
    let tails : decimal m ++ fields ms r ≡ decimal n ++ fields ns s = cc in
    let first = same_number n m (fields ms r) (fields ns s) hn.0 hm.0 tails (fields_stop ms r) (fields_stop ns s) in
    let others = same_fields ms ns r s hm.1 hn.1 first.1 in
    (ap₂ (λ x xs. x ∷ xs) first.0 others.0, others.1)

numbers_small : (call : Call) → Within call → Below (2 ^ 64) (numbers_of call)
numbers_small (Offer time destination kind payload) h = (omega arith, (omega arith, (omega arith, (omega arith, tt))))
numbers_small (Deliver index) h = (omega arith, tt)
numbers_small (Run board) h = (omega arith, tt)
numbers_small Outlook h = tt
numbers_small (Commit most) h = (omega arith, tt)

pub same_line : (a b : Call) (r s : List ℕ) → Within a → Within b → call_line a ++ r ≡ call_line b ++ s → (a ≡ b) × (r ≡ s)
same_line a b r s ha hb e =
    let both : letter_of a ∷ fields (numbers_of a) r ≡ letter_of b ∷ fields (numbers_of b) s = sym (call_line_laid a r) ∙ e ∙ call_line_laid b s in
    let letters : letter_of a ≡ letter_of b = cc in
    let tails : fields (numbers_of a) r ≡ fields (numbers_of b) s = cc in
    let same = same_fields (numbers_of a) (numbers_of b) r s (numbers_small a ha) (numbers_small b hb) tails in
    (sym (call_back a) ∙ ap₂ call_from letters same.0 ∙ call_back b, same.1)

pub no_field : (most n : ℕ) (text rest : List ℕ) (why : Why) → FieldFault most text why → n ≤ most → n < 2 ^ 64 → text ≡ 32 ∷ decimal n ++ rest → NoDigit rest → ⊥
no_field most n [] rest why fault le small e stop = let z : ◌≡◌ {A = ℕ} 0 1 = cc in omega arith
no_field most n (c ∷ text) rest why (inl bad) le small e stop = let is : c ≡ 32 = cc in bad.0 is
no_field most n (c ∷ text) rest why (inr bad) le small e stop =
    let tail : text ≡ decimal n ++ rest = cc in
    no_number most n text rest why bad.1 le small tail stop

no_ending : (text rest : List ℕ) (why : Why) → EndingFault text why → text ≡ 10 ∷ rest → ⊥
no_ending [] rest why fault e = let z : ◌≡◌ {A = ℕ} 0 1 = cc in omega arith
no_ending (c ∷ text) rest why fault e = let is : c ≡ 10 = cc in fault.0 is

no_fields : (mosts ns text rest : List ℕ) (why : Why) → Below (2 ^ 32) mosts → FieldsFault mosts text why → UpTo ns mosts → text ≡ fields ns rest → ⊥
no_fields [] [] text rest why w fault up e = no_ending text rest why fault e
no_fields [] (n ∷ ns) text rest why w fault up e = up
no_fields (most ∷ mosts) [] text rest why w fault up e = up
no_fields (most ∷ mosts) (n ∷ ns) text rest why w (inl bad) up e = let small = up.0 in let wide = w.0 in no_field most n text (fields ns rest) why bad up.0 (omega arith) e (fields_stop ns rest)
no_fields (most ∷ mosts) (n ∷ ns) text rest why w (inr past) up e =
    let small = up.0 in
    let wide = w.0 in
    let within = past.within in
    let both : 32 ∷ decimal past.number ++ past.rest ≡ 32 ∷ decimal n ++ fields ns rest = sym past.laid ∙ e in
    let tails : decimal past.number ++ past.rest ≡ decimal n ++ fields ns rest = cc in
    let same = same_number n past.number past.rest (fields ns rest) (omega arith) (omega arith) tails past.no_more (fields_stop ns rest) in
    no_fields mosts ns past.rest rest why w.1 past.then up.1 same.1

pub no_first : (end : ℕ) (text rest : List ℕ) (why : Why) → FirstFault text why → end < 2 ^ 32 → text ≡ end_line end ++ rest → ⊥
no_first end text rest why (inl bad) small e = bad.0 (fields (end ∷ []) rest) (e ∙ end_line_laid end rest)
no_first end text rest why (inr bad) small e =
    let both : 101 ∷ 110 ∷ 100 ∷ bad.0 ≡ 101 ∷ 110 ∷ 100 ∷ fields (end ∷ []) rest = sym bad.1 ∙ e ∙ end_line_laid end rest in
    let tails : bad.0 ≡ fields (end ∷ []) rest = cc in
    no_fields (4294967295 ∷ []) (end ∷ []) bad.0 rest why (omega arith, tt) bad.2 (omega arith, tt) tails

no_call : (call : Call) (rest : List ℕ) (why : Why) → Within call → LineFault (letter_of call ∷ fields (numbers_of call) rest) why → ⊥
no_call (Offer time destination kind payload) rest why h fault =
    no_fields (4294967295 ∷ 255 ∷ 255 ∷ 4294967295 ∷ []) (time ∷ destination ∷ kind ∷ payload ∷ []) _ rest why
    (omega arith, (omega arith, (omega arith, (omega arith, tt)))) fault (omega arith, (omega arith, (omega arith, (omega arith, tt)))) refl
no_call (Deliver index) rest why h fault = no_fields (65535 ∷ []) (index ∷ []) _ rest why (omega arith, tt) fault (omega arith, tt) refl
no_call (Run board) rest why h fault = no_fields (255 ∷ []) (board ∷ []) _ rest why (omega arith, tt) fault (omega arith, tt) refl
no_call Outlook rest why h fault = no_fields [] [] _ rest why tt fault tt refl
no_call (Commit most) rest why h fault = no_fields (65535 ∷ []) (most ∷ []) _ rest why (omega arith, tt) fault (omega arith, tt) refl

pub no_line : (call : Call) (text rest : List ℕ) (why : Why) → Within call → LineFault text why → text ≡ call_line call ++ rest → ⊥
no_line call text rest why h fault e = no_call call rest why h (subst (λ l. LineFault l why) (e ∙ call_line_laid call rest) fault)

pub same_end_line : (a b : ℕ) (r s : List ℕ) → a < 2 ^ 32 → b < 2 ^ 32 → end_line a ++ r ≡ end_line b ++ s → (a ≡ b) × (r ≡ s)
same_end_line a b r s ha hb e =
    let both : 101 ∷ 110 ∷ 100 ∷ fields (a ∷ []) r ≡ 101 ∷ 110 ∷ 100 ∷ fields (b ∷ []) s = sym (end_line_laid a r) ∙ e ∙ end_line_laid b s in
    let tails : fields (a ∷ []) r ≡ fields (b ∷ []) s = cc in
    let same = same_fields (a ∷ []) (b ∷ []) r s (omega arith, tt) (omega arith, tt) tails in
    (ap (λ l. get_or l 0 0) same.0, same.1)

-- a number that is read, and a fault behind it
pub past_field : (most number : ℕ) (mosts text rest : List ℕ) (why : Why) → (text ≡ 32 ∷ decimal number ++ rest) × (number ≤ most) × NoDigit rest → FieldsFault mosts rest why → FieldsFault (most ∷ mosts) text why
past_field most number mosts text rest why read fault = inr (record { number = number; rest = rest; within = read.1; laid = read.0; no_more = read.2; then = fault })

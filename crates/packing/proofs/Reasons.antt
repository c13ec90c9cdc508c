-- A text is refused for one reason.
use Rattle.std.proofs.Common.{◌≡◌, ℕ, ◌+◌, ◌^◌, Bool, true, false, cond, eqb, ◌⊎◌, List, [], ◌∷◌, ◌++◌, length, Some, None, decimal, Option, sym, refl, ap, ◌∙◌, subst, ap₂, inl, inr, append_assoc, append-nil, arith, length-append}
use Rattle.std.specs.List.{flat_map, All}
use Rattle.std.proofs.lemmas.List.Elements.{All-head, All-tail}
use Rattle.std.proofs.lemmas.Grind.{flat_map-append}
use Rattle.schedule.specs.declared.call.Call.{Call}
use Rattle.schedule.specs.Layout.{bytes_of, Within}
use Rattle.listing.specs.Listed.{call_line, end_line}
use Rattle.packing.specs.declared.error.Why.{Why}
use Rattle.packing.specs.declared.error.Why.TheVariants.{UnknownCall}
use Rattle.packing.specs.declared.error.PackError.{PackError}
use Rattle.packing.specs.declared.error.PackError.TheVariants.{BadLine, TooLong, NoMemory}
use Rattle.packing.specs.Wrong.{FieldFault, EndingFault, FieldsFault, FirstFault, mosts_of, LineFault}
use Rattle.packing.specs.Packing.{OpensWith, BreaksOff, GoesPast, Refuses, RefusedForOneReason}
use Rattle.packing.proofs.Numerals.{same_number, number_why}
use Rattle.packing.proofs.Texts.{Below, no_field, same_line, no_line, no_first, same_end_line}
use Rattle.packing.proofs.Listings.{sound, sound_wants_memory}

field_why : (most : ℕ) (text : List ℕ) (a b : Why) → FieldFault most text a → FieldFault most text b → a ≡ b
field_why most [] a b x y = x ∙ sym y
field_why most (c ∷ text) a b (inl x) (inl y) = x.1 ∙ sym y.1
field_why most (c ∷ text) a b (inl x) (inr y) = absurd (x.0 y.0)
field_why most (c ∷ text) a b (inr x) (inl y) = absurd (y.0 x.0)
field_why most (c ∷ text) a b (inr x) (inr y) = number_why most text a b x.1 y.1

ending_why : (text : List ℕ) (a b : Why) → EndingFault text a → EndingFault text b → a ≡ b
ending_why [] a b x y = x ∙ sym y
ending_why (c ∷ text) a b x y = x.1 ∙ sym y.1

fields_why : (mosts text : List ℕ) (a b : Why) → Below (2 ^ 32) mosts → FieldsFault mosts text a → FieldsFault mosts text b → a ≡ b
fields_why [] text a b w x y = ending_why text a b x y
fields_why (most ∷ mosts) text a b w (inl x) (inl y) = field_why most text a b x y
fields_why (most ∷ mosts) text a b w (inl x) (inr y) =
    let wide = w.0 in
    let within = y.within in
    absurd (no_field most y.number text y.rest a x y.within (omega arith) y.laid y.no_more)
fields_why (most ∷ mosts) text a b w (inr x) (inl y) =
    let wide = w.0 in
    let within = x.within in
    absurd (no_field most x.number text x.rest b y x.within (omega arith) x.laid x.no_more)
fields_why (most ∷ mosts) text a b w (inr x) (inr y) =
    let wide = w.0 in
    let within-x = x.within in
    let within-y = y.within in
    let both : 32 ∷ decimal x.number ++ x.rest ≡ 32 ∷ decimal y.number ++ y.rest = sym x.laid ∙ y.laid in
    let tails : decimal x.number ++ x.rest ≡ decimal y.number ++ y.rest = cc in
    let same = same_number y.number x.number x.rest y.rest (omega arith) (omega arith) tails x.no_more y.no_more in
    fields_why mosts y.rest a b w.1 (subst (λ l. FieldsFault mosts l a) same.1 x.then) y.then

first_why : (text : List ℕ) (a b : Why) → FirstFault text a → FirstFault text b → a ≡ b
first_why text a b (inl x) (inl y) = x.1 ∙ sym y.1
first_why text a b (inl x) (inr y) = absurd (x.0 y.0 y.1)
first_why text a b (inr x) (inl y) = absurd (y.0 x.0 x.1)
first_why text a b (inr x) (inr y) =
    let both : 101 ∷ 110 ∷ 100 ∷ x.0 ≡ 101 ∷ 110 ∷ 100 ∷ y.0 = sym x.1 ∙ y.1 in
    let same : x.0 ≡ y.0 = cc in
    fields_why (4294967295 ∷ []) y.0 a b (omega arith, tt) (subst (λ l. FieldsFault (4294967295 ∷ []) l a) same x.2) y.2

abbrev Told : Option (List ℕ) → List ℕ → Why → Type 0
Told o rest why = elim o [ None ↦ why ≡ UnknownCall | Some mosts ↦ FieldsFault mosts rest why ]

abbrev Bounded : Option (List ℕ) → Type 0
Bounded o = elim o [ None ↦ Unit {0} | Some mosts ↦ Below (2 ^ 32) mosts ]

either : (b : Bool) (x y : Option (List ℕ)) → Bounded x → Bounded y → Bounded (cond b x y)
either true x y hx hy = hx
either false x y hx hy = hy

bounded : (letter : ℕ) → Bounded (mosts_of letter)
bounded letter =
    either (eqb letter 111) (Some (4294967295 ∷ 255 ∷ 255 ∷ 4294967295 ∷ [])) _ (omega arith, (omega arith, (omega arith, (omega arith, tt)))) (
    either (eqb letter 100) (Some (65535 ∷ [])) _ (omega arith, tt) (
    either (eqb letter 114) (Some (255 ∷ [])) _ (omega arith, tt) (
    either (eqb letter 103) (Some []) _ tt (
    either (eqb letter 99) (Some (65535 ∷ [])) None (omega arith, tt) tt))))

told_why : (o : Option (List ℕ)) (rest : List ℕ) (a b : Why) → Bounded o → Told o rest a → Told o rest b → a ≡ b
told_why None rest a b w x y = x ∙ sym y
told_why (Some mosts) rest a b w x y = fields_why mosts rest a b w x y

line_why : (rest : List ℕ) (a b : Why) → LineFault rest a → LineFault rest b → a ≡ b
line_why [] a b x y = x ∙ sym y
line_why (letter ∷ rest) a b x y = told_why (mosts_of letter) rest a b (bounded letter) x y

-- two fronts of one text: one goes on where the other ends
record After (calls front : List Call) (r s : List ℕ) : Type 0 where
  more : List Call
  calls_are : calls ≡ front ++ more
  rest_is : s ≡ flat_map call_line more ++ r
  within : All Within more

meet : (a b : List Call) (r s : List ℕ) → All Within a → All Within b → flat_map call_line a ++ r ≡ flat_map call_line b ++ s → After a b r s ⊎ After b a s r
meet a [] r s ha hb e = inl (record { more = a; calls_are = refl; rest_is = sym e; within = ha })
meet [] (y ∷ b) r s ha hb e = inr (record { more = y ∷ b; calls_are = refl; rest_is = e; within = hb })
meet (x ∷ a) (y ∷ b) r s ha hb e = go (meet a b r s (All-tail Within x a ha) (All-tail Within y b hb) same.1)
  where
    same : (x ≡ y) × (flat_map call_line a ++ r ≡ flat_map call_line b ++ s)
    same = same_line x y (flat_map call_line a ++ r) (flat_map call_line b ++ s) (All-head Within x a ha) (All-head Within y b hb) (sym (append_assoc (call_line x) (flat_map call_line a) r) ∙ e ∙ append_assoc (call_line y) (flat_map call_line b) s)

    go : After a b r s ⊎ After b a s r → After (x ∷ a) (y ∷ b) r s ⊎ After (y ∷ b) (x ∷ a) s r
    go (inl t) = inl (record { more = t.more; calls_are = ap₂ (λ z zs. z ∷ zs) same.0 t.calls_are; rest_is = t.rest_is; within = t.within })
    go (inr t) = inr (record { more = t.more; calls_are = ap₂ (λ z zs. z ∷ zs) (sym same.0) t.calls_are; rest_is = t.rest_is; within = t.within })

-- nothing goes on at a line at fault
none_after : (calls front : List Call) (r s : List ℕ) (why : Why) → After calls front r s → LineFault s why → (calls ≡ front) × (s ≡ r)
none_after calls front r s why t fault = go t.more t.calls_are t.rest_is t.within
  where
    go : (more : List Call) → calls ≡ front ++ more → s ≡ flat_map call_line more ++ r → All Within more → (calls ≡ front) × (s ≡ r)
    go [] are is within = (are ∙ append-nil front, is)
    go (call ∷ more) are is within = absurd (no_line call s (flat_map call_line more ++ r) why (All-head Within call more within) fault (is ∙ append_assoc (call_line call) (flat_map call_line more) r))

behind : (text : List ℕ) (m n : ℕ) (a b : List Call) (r s : List ℕ) → OpensWith text m a r → OpensWith text n b s → After a b r s ⊎ After b a s r
behind text m n a b r s x y =
    let same = same_end_line m n (flat_map call_line a ++ r) (flat_map call_line b ++ s) x.end_within y.end_within (sym (append_assoc (end_line m) (flat_map call_line a) r) ∙ sym x.laid ∙ y.laid ∙ append_assoc (end_line n) (flat_map call_line b) s) in
    meet a b r s x.within y.within same.1

not_first : (text : List ℕ) (end : ℕ) (calls : List Call) (rest : List ℕ) (why : Why) → OpensWith text end calls rest → FirstFault text why → ⊥
not_first text end calls rest why o fault = no_first end text (flat_map call_line calls ++ rest) why fault o.end_within (o.laid ∙ append_assoc (end_line end) (flat_map call_line calls) rest)

breaks_once : (text : List ℕ) (k l : ℕ) (a b : Why) → BreaksOff text k a → BreaksOff text l b → BadLine k a ≡ BadLine l b
breaks_once text k l a b x y = go (behind text x.end y.end x.calls y.calls x.rest y.rest x.before y.before)
  where
    same : x.calls ≡ y.calls → x.rest ≡ y.rest → BadLine k a ≡ BadLine l b
    same calls rest = ap₂ (λ n w. BadLine n w) (x.numbered ∙ ap (λ cs. length cs + 2) calls ∙ sym y.numbered) (line_why y.rest a b (subst (λ l. LineFault l a) rest x.broken) y.broken)

    go : After x.calls y.calls x.rest y.rest ⊎ After y.calls x.calls y.rest x.rest → BadLine k a ≡ BadLine l b
    go (inl t) = let s = none_after x.calls y.calls x.rest y.rest b t y.broken in same s.0 (sym s.1)
    go (inr t) = let s = none_after y.calls x.calls y.rest x.rest a t x.broken in same (sym s.0) s.1

breaks_before : (text : List ℕ) (line : ℕ) (why : Why) → BreaksOff text line why → GoesPast text → ⊥
breaks_before text line why x y = go (behind text x.end y.end x.calls y.calls x.rest y.rest x.before y.before)
  where
    go : After x.calls y.calls x.rest y.rest ⊎ After y.calls x.calls y.rest x.rest → ⊥
    go (inl t) =
        let bytes = ap length (ap (flat_map bytes_of) t.calls_are ∙ flat_map-append bytes_of y.calls t.more) ∙ length-append (flat_map bytes_of y.calls) (flat_map bytes_of t.more) in
        let small = x.small in
        let large = y.large in
        omega arith
    go (inr t) =
        let s = none_after y.calls x.calls y.rest x.rest why t x.broken in
        let bytes = ap (λ cs. length (flat_map bytes_of cs)) s.0 in
        let small = x.small in
        let large = y.large in
        omega arith

wants_alone : (text : List ℕ) (e : PackError) → Refuses text NoMemory → Refuses text e → e ≡ NoMemory
wants_alone text e (bytes, p) x = sound_wants_memory text p.end p.calls e (sound text bytes p.end p.calls p.follows p.lists_as_the_text) x

pub refused_for_one_reason : RefusedForOneReason
refused_for_one_reason text (BadLine k a) (BadLine l b) (inl x) (inl y) = ap₂ (λ n w. BadLine n w) (x.0 ∙ sym y.0) (first_why text a b x.1 y.1)
refused_for_one_reason text (BadLine k a) (BadLine l b) (inl x) (inr y) = absurd (not_first text y.end y.calls y.rest a y.before x.1)
refused_for_one_reason text (BadLine k a) (BadLine l b) (inr x) (inl y) = absurd (not_first text x.end x.calls x.rest b x.before y.1)
refused_for_one_reason text (BadLine k a) (BadLine l b) (inr x) (inr y) = breaks_once text k l a b x y
refused_for_one_reason text (BadLine k a) TooLong (inl x) y = absurd (not_first text y.end y.calls y.rest a y.before x.1)
refused_for_one_reason text (BadLine k a) TooLong (inr x) y = absurd (breaks_before text k a x y)
refused_for_one_reason text TooLong (BadLine l b) x (inl y) = absurd (not_first text x.end x.calls x.rest b x.before y.1)
refused_for_one_reason text TooLong (BadLine l b) x (inr y) = absurd (breaks_before text l b y x)
refused_for_one_reason text TooLong TooLong x y = refl
refused_for_one_reason text (BadLine k a) NoMemory x y = wants_alone text (BadLine k a) y x
refused_for_one_reason text TooLong NoMemory x y = wants_alone text TooLong y x
refused_for_one_reason text NoMemory b x y = sym (wants_alone text b x y)

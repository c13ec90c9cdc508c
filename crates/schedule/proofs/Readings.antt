-- The reading of a file, and the layout.
use Rattle.std.proofs.Common.{◌≡◌, ℕ, zero, suc, ◌+◌, ◌*◌, ◌/◌, ◌%◌, ◌^◌, ◌<◌, ◌≤◌, Bool, true, false, cond, eqb, ltb, List, [], ◌∷◌, ◌++◌, length, get_or, take, drop, Some, None, Ok, Err, Option, Result, unwrap_or, sym, refl, ap, ◌∙◌, subst, ap₂, ⊎_elim, append_assoc, le_of_suc-le-suc, add-zero, arith, length-append, length-drop, take-append-drop, get_or-drop, drop-cons, drop-drop, w8, Fits}
use Rattle.std.specs.List.{flat_map, All}
use Rattle.std.proofs.lemmas.Bool.{ltb-false, ne_eqb, eqb-true, cond-false, cond-true, cases_eq, cases_Bool}
use Rattle.std.proofs.lemmas.List.Elements.{All-nil, All-cons}
use Rattle.schedule.specs.declared.call.CallFault.{CallFault}
use Rattle.schedule.specs.declared.call.CallFault.TheVariants.{Number, UnknownLetter}
use Rattle.schedule.specs.declared.file.Fault.{Fault}
use Rattle.schedule.specs.declared.call.Call.{Call}
use Rattle.schedule.specs.declared.call.Call.TheVariants.{Offer, Deliver, Run, Outlook, Commit}
use Rattle.schedule.specs.Layout.{two, four, bytes_of, Within, encode, Follows}
use Rattle.schedule.specs.Faults.{size, call_fault, placed, calls_fault, edition, header_fault, fault_of, BreaksOff, FaultsWhereItBreaksOff}
use Rattle.schedule.specs.Reading.{number, call_of, calls_of, reading, ReadsTheLayout}
use Rattle.schedule.proofs.Laws.{follows_passes, all_passed, body_fault}

-- what is written is read

number_two : (n : ℕ) → number (two n) ≡ n
number_two n = omega arith

number_four : (n : ℕ) → number (four n) ≡ n
number_four n = omega arith

call_back : (call : Call) (rest : List ℕ) → calls_of 0 (bytes_of call ++ rest) ≡ call ∷ calls_of 0 rest
call_back (Offer time destination kind payload) rest = ap₂ (λ t p. Offer t destination kind p ∷ calls_of 0 rest) (number_four time) (number_four payload)
call_back (Deliver index) rest = ap (λ n. Deliver n ∷ calls_of 0 rest) (number_two index)
call_back (Run board) rest = refl
call_back Outlook rest = refl
call_back (Commit most) rest = ap (λ n. Commit n ∷ calls_of 0 rest) (number_two most)

calls_back : (calls : List Call) → calls_of 0 (flat_map bytes_of calls) ≡ calls
calls_back [] = refl
calls_back (call ∷ calls) = call_back call (flat_map bytes_of calls) ∙ ap (λ l. call ∷ l) (calls_back calls)

-- the reading where there is no fault
abbrev good : List ℕ → Option Fault → Result (ℕ × List Call) Fault
good bytes o = elim o [ None ↦ Ok (number (take 4 (drop 2 bytes)), calls_of 0 (drop 6 bytes)) | Some fault ↦ Err fault ]

pub written_is_read : (bytes : List ℕ) (end : ℕ) (calls : List Call) → Follows bytes end calls → reading bytes ≡ Ok (end, calls)
written_is_read bytes end calls h =
    ap (good bytes) (follows_passes bytes end calls h)
    ∙ ap (λ b. Ok (number (take 4 (drop 2 b)), calls_of 0 (drop 6 b))) h.laid
    ∙ ap₂ (λ e cs. Ok (e, cs)) (number_four end) (calls_back calls)

-- what is read was written

-- each element is a byte
abbrev pub Bytes : List ℕ → Type 0
Bytes s = (i : ℕ) → Fits w8 (get_or s i 0)

bytes_drop : (s : List ℕ) (k : ℕ) → Bytes s → Bytes (drop k s)
bytes_drop s k fit i = subst (Fits w8) (sym (get_or-drop k s i 0)) (fit (k + i))

two_of : (n a b : ℕ) → a < 256 → b < 256 → n ≡ a + b * 256 → two n ≡ a ∷ b ∷ []
two_of n a b f g e =
    let p : n % 256 ≡ a = omega arith in
    let q : n / 256 ≡ b = omega arith in
    cc

two_take : (s : List ℕ) → Bytes s → 2 ≤ length s → two (number (take 2 s)) ≡ take 2 s
two_take [] fit h = absurd (omega arith)
two_take (a ∷ []) fit h = absurd (omega arith)
two_take (a ∷ b ∷ s) fit h = two_of (number (a ∷ b ∷ [])) a b (fit 0).fits (fit 1).fits (omega arith)

four_take : (s : List ℕ) → Bytes s → 4 ≤ length s → four (number (take 4 s)) ≡ take 4 s
four_take [] fit h = absurd (omega arith)
four_take (a ∷ []) fit h = absurd (omega arith)
four_take (a ∷ b ∷ []) fit h = absurd (omega arith)
four_take (a ∷ b ∷ c ∷ []) fit h = absurd (omega arith)
four_take (a ∷ b ∷ c ∷ d ∷ s) fit h =
    let n = number (a ∷ b ∷ c ∷ d ∷ []) in
    let low : n % 65536 ≡ a + b * 256 = omega (arith, (fit 0).fits, (fit 1).fits) in
    let high : n / 65536 ≡ c + d * 256 = omega (arith, (fit 0).fits, (fit 1).fits) in
    ap₂ (λ x y. x ++ y) (two_of (n % 65536) a b (fit 0).fits (fit 1).fits low) (two_of (n / 65536) c d (fit 2).fits (fit 3).fits high)

-- the numbers that the bytes open with, as the layout has them
two_front : (s : List ℕ) → Bytes s → 2 ≤ length s → s ≡ two (number (take 2 s)) ++ drop 2 s
two_front s fit h = sym (take-append-drop 2 s) ∙ ap (λ l. l ++ drop 2 s) (sym (two_take s fit h))

four_front : (s : List ℕ) → Bytes s → 4 ≤ length s → s ≡ four (number (take 4 s)) ++ drop 4 s
four_front s fit h = sym (take-append-drop 4 s) ∙ ap (λ l. l ++ drop 4 s) (sym (four_take s fit h))

four_behind : (s : List ℕ) (k : ℕ) → Bytes s → k + 4 ≤ length s → drop k s ≡ four (number (take 4 (drop k s))) ++ drop (k + 4) s
four_behind s k fit h =
    let long : 4 ≤ length (drop k s) = simp length-drop (omega arith) in
    four_front (drop k s) (bytes_drop s k fit) long ∙ ap (λ l. four (number (take 4 (drop k s))) ++ l) (drop-drop 4 k s)

small_two : (s : List ℕ) → Bytes s → number (take 2 s) < 2 ^ 16
small_two [] fit = omega arith
small_two (a ∷ []) fit = omega (arith, (fit 0).fits)
small_two (a ∷ b ∷ s) fit = omega (arith, (fit 0).fits, (fit 1).fits)

small_four : (s : List ℕ) → Bytes s → number (take 4 s) < 2 ^ 32
small_four [] fit = omega arith
small_four (a ∷ []) fit = omega (arith, (fit 0).fits)
small_four (a ∷ b ∷ []) fit = omega (arith, (fit 0).fits, (fit 1).fits)
small_four (a ∷ b ∷ c ∷ []) fit = omega (arith, (fit 0).fits, (fit 1).fits, (fit 2).fits)
small_four (a ∷ b ∷ c ∷ d ∷ s) fit = omega (arith, (fit 0).fits, (fit 1).fits, (fit 2).fits, (fit 3).fits)

-- a test that no fault came of
there : (n : ℕ) (s : List ℕ) → cond (ltb (length s) n) (Some (Number (record {}))) None ≡ None → n ≤ length s
there n s e = ⊎_elim (λ t. let never = sym (cond-true _ _ _ t) ∙ e in cc) (λ f. ltb-false (length s) n f) (cases_Bool (ltb (length s) n))

-- the call that a letter and what follows it hold
pub record Held (letter : ℕ) (rest : List ℕ) : Type 0 where
  pub laid : letter ∷ rest ≡ bytes_of (call_of letter rest) ++ drop (unwrap_or (size letter) 0) rest
  pub within : Within (call_of letter rest)
  pub long : unwrap_or (size letter) 0 ≤ length rest

held_o : (rest : List ℕ) → Bytes rest → 10 ≤ length rest → Held 111 rest
held_o rest fit h = record {
  laid = ap (λ l. 111 ∷ l) (four_front rest fit (omega arith) ∙ ap (λ l. four (number (take 4 rest)) ++ l) middle);
  within = (small_four rest fit, (fit 4).fits, (fit 5).fits, small_four (drop 6 rest) (bytes_drop rest 6 fit));
  long = h;
}
  where
    middle : drop 4 rest ≡ get_or rest 4 0 ∷ get_or rest 5 0 ∷ four (number (take 4 (drop 6 rest))) ++ drop 10 rest
    middle = drop-cons rest 4 0 (omega arith) ∙ ap (λ l. get_or rest 4 0 ∷ l) (drop-cons rest 5 0 (omega arith) ∙ ap (λ l. get_or rest 5 0 ∷ l) (four_behind rest 6 fit h))

held_d : (rest : List ℕ) → Bytes rest → 2 ≤ length rest → Held 100 rest
held_d rest fit h = record { laid = ap (λ l. 100 ∷ l) (two_front rest fit h); within = small_two rest fit; long = h }

held_r : (rest : List ℕ) → Bytes rest → 1 ≤ length rest → Held 114 rest
held_r rest fit h = record { laid = ap (λ l. 114 ∷ l) (drop-cons rest 0 0 h); within = (fit 0).fits; long = h }

held_g : (rest : List ℕ) → Held 103 rest
held_g rest = record { laid = refl; within = tt; long = omega arith }

held_c : (rest : List ℕ) → Bytes rest → 2 ≤ length rest → Held 99 rest
held_c rest fit h = record { laid = ap (λ l. 99 ∷ l) (two_front rest fit h); within = small_two rest fit; long = h }

unknown : (letter : ℕ) (rest : List ℕ) → (letter ≡ 111 → ⊥) → (letter ≡ 100 → ⊥) → (letter ≡ 114 → ⊥) → (letter ≡ 103 → ⊥) → (letter ≡ 99 → ⊥) → call_fault letter rest ≡ Some UnknownLetter
unknown letter rest o d r g c = ap fault (cond-false _ _ _ (ne_eqb letter 111 o) ∙ cond-false _ _ _ (ne_eqb letter 100 d) ∙ cond-false _ _ _ (ne_eqb letter 114 r) ∙ cond-false _ _ _ (ne_eqb letter 103 g) ∙ cond-false _ _ _ (ne_eqb letter 99 c))
  where
    fault : Option ℕ → Option CallFault
    fault s = elim s [ None ↦ Some UnknownLetter | Some n ↦ cond (ltb (length rest) n) (Some (Number (record {}))) None ]

held : (letter : ℕ) (rest : List ℕ) → Bytes rest → call_fault letter rest ≡ None → Held letter rest
held letter rest fit none =
    ⊎_elim (λ is. at 111 is (λ e. held_o rest fit (there 10 rest e))) (λ o.
    ⊎_elim (λ is. at 100 is (λ e. held_d rest fit (there 2 rest e))) (λ d.
    ⊎_elim (λ is. at 114 is (λ e. held_r rest fit (there 1 rest e))) (λ r.
    ⊎_elim (λ is. at 103 is (λ e. held_g rest)) (λ g.
    ⊎_elim (λ is. at 99 is (λ e. held_c rest fit (there 2 rest e))) (λ c.
    let bad = unknown letter rest o d r g c in cc)
    (cases_eq letter 99)) (cases_eq letter 103)) (cases_eq letter 114)) (cases_eq letter 100)) (cases_eq letter 111)
  where
    at : (l : ℕ) → letter ≡ l → (call_fault l rest ≡ None → Held l rest) → Held letter rest
    at l is f = subst (λ n. Held n rest) (sym is) (f (subst (λ n. call_fault n rest ≡ None) is none))

-- what is told behind a fault that may be there
abbrev behind : {A B : Type 0} → (A → B) → Option A → Option B → Option B
behind f o x = elim o [ None ↦ x | Some a ↦ Some (f a) ]

passed : {A B : Type 0} (f : A → B) (o : Option A) (x : Option B) → behind f o x ≡ None → (o ≡ None) × (x ≡ None)
passed f None x e = (refl, e)
passed f (Some a) x e = cc

calls_laid : (bytes : List ℕ) (offset skip : ℕ) → Bytes bytes → skip ≤ length bytes → calls_fault offset skip bytes ≡ None → (drop skip bytes ≡ flat_map bytes_of (calls_of skip bytes)) × All Within (calls_of skip bytes)
calls_laid [] offset zero fit h none = (refl, All-nil Within)
calls_laid [] offset (suc skip) fit h none = (refl, All-nil Within)
calls_laid (b ∷ rest) offset (suc skip) fit h none = calls_laid rest (offset + 1) skip (λ i. fit (suc i)) (le_of_suc-le-suc h) none
calls_laid (letter ∷ rest) offset zero fit h none =
    let pass = passed (placed offset) (call_fault letter rest) (calls_fault (offset + 1) (unwrap_or (size letter) 0) rest) none in
    let first = held letter rest (λ i. fit (suc i)) pass.0 in
    let others = calls_laid rest (offset + 1) (unwrap_or (size letter) 0) (λ i. fit (suc i)) first.long pass.1 in
    (first.laid ∙ ap (λ l. bytes_of (call_of letter rest) ++ l) others.0, All-cons Within _ _ first.within others.1)

-- a test that no fault came of
untold : (b : Bool) (f : Fault) (x : Option Fault) → cond b (Some f) x ≡ None → (b ≡ false) × (x ≡ None)
untold true f x e = cc
untold false f x e = (refl, e)

told : (b : Bool) (f : Fault) → cond b None (Some f) ≡ None → b ≡ true
told true f e = refl
told false f e = cc

header_passed : (bytes : List ℕ) → header_fault bytes ≡ None → (length bytes ≤ 60000) × (6 ≤ length bytes) × (edition bytes ≡ 1)
header_passed bytes none =
    let long = untold (ltb 60000 (length bytes)) _ _ none in
    let short = untold (ltb (length bytes) 6) _ _ long.1 in
    (ltb-false 60000 (length bytes) long.0, ltb-false (length bytes) 6 short.0, eqb-true (edition bytes) 1 (told (eqb (edition bytes) 1) _ short.1))

no_fault : (bytes : List ℕ) (o : Option Fault) (end : ℕ) (calls : List Call) → good bytes o ≡ Ok (end, calls) → (o ≡ None) × (number (take 4 (drop 2 bytes)) ≡ end) × (calls_of 0 (drop 6 bytes) ≡ calls)
no_fault bytes None end calls e =
    let p : ◌≡◌ {A = ℕ × List Call} (number (take 4 (drop 2 bytes)), calls_of 0 (drop 6 bytes)) (end, calls) = cc in
    (refl, ap (λ x. x.0) p, ap (λ x. x.1) p)
no_fault bytes (Some f) end calls e = cc

header_front : (s : List ℕ) → Bytes s → 6 ≤ length s → edition s ≡ 1 → s ≡ encode (number (take 4 (drop 2 s))) [] ++ drop 6 s
header_front s fit some one =
    let low : get_or s 0 0 ≡ 1 = omega (arith, (fit 0).fits) in
    let high : get_or s 1 0 ≡ 0 = omega (arith, (fit 0).fits) in
    drop-cons s 0 0 (omega arith) ∙ (λ i. low i ∷ (drop-cons s 1 0 (omega arith) ∙ (λ j. high j ∷ four_behind s 2 fit some j)) i)

pub read_was_written : (bytes : List ℕ) (end : ℕ) (calls : List Call) → Bytes bytes → reading bytes ≡ Ok (end, calls) → Follows bytes end calls
read_was_written bytes end calls fit e =
    let read = no_fault bytes (fault_of bytes) end calls e in
    let passes = passed (λ f. f) (header_fault bytes) (calls_fault 6 0 (drop 6 bytes)) read.0 in
    let header = header_passed bytes passes.0 in
    let laid = calls_laid (drop 6 bytes) 6 0 (bytes_drop bytes 6 fit) (omega arith) passes.1 in
    let front = header_front bytes fit header.1 header.2 in
    record {
      laid = front ∙ (λ i. encode (read.1 i) [] ++ laid.0 i) ∙ ap (λ l. encode end l) read.2;
      small = header.0;
      end_within = subst (λ n. n < 2 ^ 32) read.1 (small_four (drop 2 bytes) (bytes_drop bytes 2 fit));
      within = subst (All Within) read.2 laid.1;
    }

pub reads_the_layout : (bytes : List ℕ) → Bytes bytes → ReadsTheLayout bytes
reads_the_layout bytes fit end calls = (read_was_written bytes end calls fit, written_is_read bytes end calls)

-- where the calls break off

-- past the numbers to skip, calls as the layout has them, and then one that is at fault
record Stop (offset : ℕ) (bytes : List ℕ) (fault : Fault) : Type 0 where
  calls : List Call
  letter : ℕ
  rest : List ℕ
  why : CallFault
  laid : bytes ≡ flat_map bytes_of calls ++ letter ∷ rest
  within : All Within calls
  broken : call_fault letter rest ≡ Some why
  told : fault ≡ placed (offset + length (flat_map bytes_of calls)) why

stop_later : (offset later : ℕ) (bytes : List ℕ) (call : Call) (fault : Fault) → Within call → later ≡ offset + length (bytes_of call) → Stop later bytes fault → Stop offset (bytes_of call ++ bytes) fault
stop_later offset later bytes call fault fits at s =
    let long = length-append (bytes_of call) (flat_map bytes_of s.calls) in
    let same : later + length (flat_map bytes_of s.calls) ≡ offset + length (flat_map bytes_of (call ∷ s.calls)) = omega arith in
    record {
      calls = call ∷ s.calls;
      letter = s.letter;
      rest = s.rest;
      why = s.why;
      laid = ap (λ l. bytes_of call ++ l) s.laid ∙ sym (append_assoc (bytes_of call) (flat_map bytes_of s.calls) (s.letter ∷ s.rest));
      within = All-cons Within call s.calls fits s.within;
      broken = s.broken;
      told = s.told ∙ ap (λ n. placed n s.why) same;
    }

stops : (bytes : List ℕ) (offset skip : ℕ) (fault : Fault) → Bytes bytes → skip ≤ length bytes → calls_fault offset skip bytes ≡ Some fault → Stop (offset + skip) (drop skip bytes) fault
stops [] offset skip fault fit h e = cc
stops (b ∷ rest) offset (suc skip) fault fit h e =
    let same : offset + 1 + skip ≡ offset + suc skip = omega arith in
    subst (λ n. Stop n (drop skip rest) fault) same (stops rest (offset + 1) skip fault (λ i. fit (suc i)) (le_of_suc-le-suc h) e)
stops (letter ∷ rest) offset zero fault fit h e = subst (λ n. Stop n (letter ∷ rest) fault) (sym (add-zero offset)) (go (λ long. stops rest (offset + 1) (unwrap_or (size letter) 0) fault (λ i. fit (suc i)) long) (call_fault letter rest) refl e)
  where
    go : (unwrap_or (size letter) 0 ≤ length rest → calls_fault (offset + 1) (unwrap_or (size letter) 0) rest ≡ Some fault → Stop (offset + 1 + unwrap_or (size letter) 0) (drop (unwrap_or (size letter) 0) rest) fault) → (o : Option CallFault) → call_fault letter rest ≡ o → behind (placed offset) o (calls_fault (offset + 1) (unwrap_or (size letter) 0) rest) ≡ Some fault → Stop offset (letter ∷ rest) fault
    go more None none e =
        let first = held letter rest (λ i. fit (suc i)) none in
        let s = more first.long e in
        let lens = ap length first.laid ∙ length-append (bytes_of (call_of letter rest)) (drop (unwrap_or (size letter) 0) rest) in
        let left = length-drop (unwrap_or (size letter) 0) rest in
        let fits = first.long in
        subst (λ l. Stop offset l fault) (sym first.laid) (stop_later offset _ (drop (unwrap_or (size letter) 0) rest) (call_of letter rest) fault first.within (omega arith) s)
    go more (Some f) some e =
        let is : placed offset f ≡ fault = cc in
        record { calls = []; letter = letter; rest = rest; why = f; laid = refl; within = All-nil Within; broken = some; told = sym is ∙ ap (λ n. placed n f) (sym (add-zero offset)) }

fault_breaks : (bytes : List ℕ) (fault : Fault) → Bytes bytes → header_fault bytes ≡ None → fault_of bytes ≡ Some fault → BreaksOff bytes fault
fault_breaks bytes fault fit none e =
    let header = header_passed bytes none in
    let s = stops (drop 6 bytes) 6 0 fault (bytes_drop bytes 6 fit) (omega arith) (sym (ap (λ o. behind (λ f. f) o (calls_fault 6 0 (drop 6 bytes))) none) ∙ e) in
    let front = header_front bytes fit header.1 header.2 in
    let same : 6 + 0 + length (flat_map bytes_of s.calls) ≡ length (encode (number (take 4 (drop 2 bytes))) s.calls) = omega arith in
    record {
      end = number (take 4 (drop 2 bytes));
      before = s.calls;
      letter = s.letter;
      rest = s.rest;
      why = s.why;
      laid = front ∙ ap (λ l. encode (number (take 4 (drop 2 bytes))) [] ++ l) s.laid;
      end_within = small_four (drop 2 bytes) (bytes_drop bytes 2 fit);
      within = s.within;
      broken = s.broken;
      told = s.told ∙ ap (λ n. placed n s.why) same;
    }

breaks_fault : (bytes : List ℕ) (fault : Fault) → header_fault bytes ≡ None → BreaksOff bytes fault → fault_of bytes ≡ Some fault
breaks_fault bytes fault none b =
    let rest = flat_map bytes_of b.before ++ b.letter ∷ b.rest in
    let small = (header_passed bytes none).0 in
    let at : 6 + length (flat_map bytes_of b.before) ≡ length (encode b.end b.before) = omega arith in
    ap fault_of b.laid ∙ body_fault b.end (flat_map bytes_of b.before ++ b.letter ∷ b.rest) (subst (λ l. length l ≤ 60000) b.laid small)
    ∙ all_passed b.before 6 (b.letter ∷ b.rest)
    ∙ ap (λ o. behind (placed (6 + length (flat_map bytes_of b.before))) o (calls_fault (6 + length (flat_map bytes_of b.before) + 1) (unwrap_or (size b.letter) 0) b.rest)) b.broken
    ∙ ap (λ n. Some (placed n b.why)) at ∙ ap Some (sym b.told)

pub faults_where_it_breaks_off : (bytes : List ℕ) → Bytes bytes → FaultsWhereItBreaksOff bytes
faults_where_it_breaks_off bytes fit fault none = (fault_breaks bytes fault fit none, breaks_fault bytes fault none)

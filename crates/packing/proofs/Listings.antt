-- A whole text: its lines so far, and that it lists one schedule at most.
use Rattle.std.proofs.Common.{◌≡◌, ℕ, ◌+◌, ◌^◌, ◌<◌, ◌≤◌, List, [], ◌∷◌, ◌++◌, length, Ok, Err, Result, sym, refl, ap, ◌∙◌, subst, ap₂, inl, inr, append_assoc, append-nil, arith, length-append, MatchResult}
use Rattle.std.specs.List.{flat_map, All}
use Rattle.std.proofs.lemmas.List.{flat_map_more}
use Rattle.std.proofs.lemmas.Grind.{flat_map-append}
use Rattle.std.proofs.lemmas.List.Elements.{All-head, All-tail, All-push}
use Rattle.schedule.specs.declared.call.Call.{Call}
use Rattle.schedule.specs.declared.call.Call.TheVariants.{Offer, Deliver, Run, Outlook, Commit}
use Rattle.schedule.specs.declared.file.Fault.{Fault}
use Rattle.schedule.specs.Layout.{bytes_of, Within, encode, Follows}
use Rattle.schedule.specs.Lines.{fault_text}
use Rattle.schedule.proofs.Readings.{written_is_read}
use Rattle.listing.specs.Listed.{call_line, end_line, listed}
use Rattle.packing.specs.declared.error.Why.{Why}
use Rattle.packing.specs.declared.error.Why.TheVariants.{UnknownCall}
use Rattle.packing.specs.declared.error.PackError.{PackError}
use Rattle.packing.specs.declared.error.PackError.TheVariants.{BadLine, TooLong, NoMemory}
use Rattle.packing.specs.Wrong.{FirstFault, LineFault}
use Rattle.packing.specs.Packing.{at_line, Packs, OpensWith, Refuses, LinesFit, WritesTheLines}
use Rattle.packing.proofs.Texts.{call_line_laid, same_line, no_line, no_first, same_end_line}

-- what a line's number was added to
pub unnumbered : {T : Type 0} (line : ℕ) (x : T) (r : Result T Why) → Ok x ≡ at_line line r → r ≡ Ok x
unnumbered line x (Ok value) e = cc
unnumbered line x (Err why) e = cc

-- a call's line is not empty
line_some : (call : Call) (rest : List ℕ) → length rest < length (call_line call ++ rest)
line_some call rest =
    let laid = ap length (call_line_laid call rest) in
    let parts = length-append (call_line call) rest in
    let some = length-append (call_line call) [] in
    let alone = ap length (call_line_laid call []) in
    omega arith

-- a call takes a byte at least
byte_some : (call : Call) → 1 ≤ length (bytes_of call)
byte_some (Offer time destination kind payload) = omega arith
byte_some (Deliver index) = omega arith
byte_some (Run board) = omega arith
byte_some Outlook = omega arith
byte_some (Commit most) = omega arith

-- one line more of the text is read
line_read : (lines rest after : List ℕ) (calls : List Call) (call : Call) → lines ≡ flat_map call_line calls ++ rest → rest ≡ call_line call ++ after → lines ≡ flat_map call_line (calls ++ call ∷ []) ++ after
line_read lines rest after calls call laid opened =
    laid
    ∙ ap (λ l. flat_map call_line calls ++ l) opened
    ∙ sym (append_assoc (flat_map call_line calls) (call_line call) after)
    ∙ ap (λ l. l ++ after) (flat_map_more call_line [] calls call)

-- the lines before the rest are those of calls, whose bytes are counted, and the rest begins at the line
pub record Measured (lines rest : List ℕ) (size line : ℕ) : Type 0 where
  pub calls : List Call
  pub laid : lines ≡ flat_map call_line calls ++ rest
  pub within : All Within calls
  pub counted : size ≡ 6 + length (flat_map bytes_of calls)
  pub small : size ≤ 60000
  pub numbered : line ≡ length calls + 2
  pub some : length calls ≤ length (flat_map bytes_of calls)

pub measured_more : (lines rest after : List ℕ) (size line more : ℕ) (call : Call) → Measured lines rest size line → rest ≡ call_line call ++ after → Within call → more ≡ length (bytes_of call) → size + more ≤ 60000 → Measured lines after (size + more) (line + 1)
measured_more lines rest after size line more call m opened fits long small =
    let bytes = ap length (sym (flat_map_more bytes_of [] m.calls call)) ∙ length-append (flat_map bytes_of m.calls) (bytes_of call) in
    let count = length-append m.calls (call ∷ []) in
    let one = byte_some call in
    let before = m.counted in
    let number = m.numbered in
    let least = m.some in
    record {
      calls = m.calls ++ call ∷ [];
      laid = line_read lines rest after m.calls call m.laid opened;
      within = All-push Within m.calls call m.within fits;
      counted = omega arith;
      small = small;
      numbered = omega arith;
      some = omega arith;
    }

-- the text with the line of the end time before
opens_with : (text lines rest : List ℕ) (end : ℕ) (calls : List Call) → text ≡ end_line end ++ lines → end < 2 ^ 32 → lines ≡ flat_map call_line calls ++ rest → All Within calls → OpensWith text end calls rest
opens_with text lines rest end calls first fits laid within = record {
  laid = first ∙ ap (λ l. end_line end ++ l) laid ∙ sym (append_assoc (end_line end) (flat_map call_line calls) rest);
  end_within = fits;
  within = within;
}

refuses_line : (lines rest : List ℕ) (size line : ℕ) (why : Why) → Measured lines rest size line → 1 ≤ length rest → LineFault rest why → (text : List ℕ) (end : ℕ) → text ≡ end_line end ++ lines → end < 2 ^ 32 → Refuses text (BadLine line why)
refuses_line lines rest size line why m some broken text end first fits =
    let counted = m.counted in
    let small = m.small in
    inr (record {
      end = end;
      calls = m.calls;
      rest = rest;
      before = opens_with text lines rest end m.calls first fits m.laid m.within;
      small = omega arith;
      more = some;
      broken = broken;
      numbered = m.numbered;
    })

pub bad_line : {T : Type 0} (P : T → Type 0) (lines rest : List ℕ) (size line : ℕ) (r : Result T Why) (e : PackError) → Measured lines rest size line → Err e ≡ at_line line r → MatchResult r P (λ why. (0 < length rest) × LineFault rest why) → (text : List ℕ) (end : ℕ) → text ≡ end_line end ++ lines → end < 2 ^ 32 → Refuses text e
bad_line P lines rest size line (Ok x) e m is read text end first fits = cc
bad_line P lines rest size line (Err why) e m is read text end first fits =
    let same : e ≡ BadLine line why = cc in
    subst (Refuses text) (sym same) (refuses_line lines rest size line why m read.0 read.1 text end first fits)

pub bad_end : {T : Type 0} (P : T → Type 0) (text : List ℕ) (r : Result T Why) (e : PackError) → Err e ≡ at_line 1 r → MatchResult r P (λ why. FirstFault text why) → Refuses text e
bad_end P text (Ok x) e is read = cc
bad_end P text (Err why) e is read =
    let same : e ≡ BadLine 1 why = cc in
    subst (Refuses text) (sym same) (inl (refl, read))

pub refuses_size : (lines rest after : List ℕ) (size line more : ℕ) (call : Call) → Measured lines rest size line → rest ≡ call_line call ++ after → Within call → more ≡ length (bytes_of call) → 60000 < size + more → (text : List ℕ) (end : ℕ) → text ≡ end_line end ++ lines → end < 2 ^ 32 → Refuses text TooLong
refuses_size lines rest after size line more call m opened fits long large text end first end_fits =
    let bytes = ap length (sym (flat_map_more bytes_of [] m.calls call)) ∙ length-append (flat_map bytes_of m.calls) (bytes_of call) in
    let counted = m.counted in
    record {
      end = end;
      calls = m.calls ++ call ∷ [];
      rest = after;
      before = opens_with text lines after end (m.calls ++ call ∷ []) first end_fits (line_read lines rest after m.calls call m.laid opened) (All-push Within m.calls call m.within fits);
      large = omega arith;
    }

-- the lines before the rest are those of calls, whose bytes are written
pub record Written (lines rest before now : List ℕ) : Type 0 where
  pub calls : List Call
  pub laid : lines ≡ flat_map call_line calls ++ rest
  pub within : All Within calls
  pub written : now ≡ before ++ flat_map bytes_of calls

pub written_more : (lines rest after before now more : List ℕ) (call : Call) → Written lines rest before now → rest ≡ call_line call ++ after → Within call → more ≡ now ++ bytes_of call → Written lines after before more
written_more lines rest after before now more call w opened fits wrote = record {
  calls = w.calls ++ call ∷ [];
  laid = line_read lines rest after w.calls call w.laid opened;
  within = All-push Within w.calls call w.within fits;
  written = wrote ∙ ap (λ l. l ++ bytes_of call) w.written ∙ flat_map_more bytes_of before w.calls call;
}

-- the calls of a listing go on where those of its front end
pub record Goes_on (calls front : List Call) (rest : List ℕ) : Type 0 where
  pub more : List Call
  pub calls_are : calls ≡ front ++ more
  pub rest_is : rest ≡ flat_map call_line more
  pub within : All Within more

goes_on : (calls front : List Call) (rest : List ℕ) → All Within calls → All Within front → flat_map call_line calls ≡ flat_map call_line front ++ rest → Goes_on calls front rest
goes_on calls [] rest hc hf e = record { more = calls; calls_are = refl; rest_is = sym e; within = hc }
goes_on [] (f ∷ front) rest hc hf e =
    let some = line_some f (flat_map call_line front ++ rest) in
    let long = ap length (e ∙ append_assoc (call_line f) (flat_map call_line front) rest) in
    absurd (omega arith)
goes_on (c ∷ calls) (f ∷ front) rest hc hf e =
    let same = same_line c f (flat_map call_line calls) (flat_map call_line front ++ rest) (All-head Within c calls hc) (All-head Within f front hf) (e ∙ append_assoc (call_line f) (flat_map call_line front) rest) in
    let on = goes_on calls front rest (All-tail Within c calls hc) (All-tail Within f front hf) same.1 in
    record { more = on.more; calls_are = ap₂ (λ x xs. x ∷ xs) same.0 on.calls_are; rest_is = on.rest_is; within = on.within }

-- no call goes on at a line at fault
ends_there : (rest : List ℕ) (why : Why) (more : List Call) → All Within more → rest ≡ flat_map call_line more → LineFault rest why → more ≡ []
ends_there rest why [] within e fault = refl
ends_there rest why (call ∷ more) within e fault = absurd (no_line call rest (flat_map call_line more) why (All-head Within call more within) fault e)

-- a text that is the listing of a schedule, which a file can hold
pub record Sound (text : List ℕ) (end : ℕ) (calls : List Call) : Type 0 where
  pub laid : text ≡ end_line end ++ flat_map call_line calls
  pub end_within : end < 2 ^ 32
  pub within : All Within calls
  pub small : length (encode end calls) ≤ 60000

abbrev listed_of : Result (ℕ × List Call) Fault → List ℕ
listed_of r = elim r [ Ok s ↦ end_line s.0 ++ flat_map call_line s.1 | Err fault ↦ fault_text fault ++ 10 ∷ [] ]

lists : (bytes : List ℕ) (end : ℕ) (calls : List Call) → Follows bytes end calls → listed bytes ≡ end_line end ++ flat_map call_line calls
lists bytes end calls f = ap listed_of (written_is_read bytes end calls f)

packs : (text bytes : List ℕ) (end : ℕ) (calls : List Call) → Sound text end calls → bytes ≡ encode end calls → Packs text bytes
packs text bytes end calls s laid =
    let follows : Follows bytes end calls = record { laid = laid; small = subst (λ b. length b ≤ 60000) (sym laid) s.small; end_within = s.end_within; within = s.within } in
    record { end = end; calls = calls; follows = follows; reads_back = written_is_read bytes end calls follows; lists_as_the_text = lists bytes end calls follows ∙ sym s.laid }

pub sound : (text bytes : List ℕ) (end : ℕ) (calls : List Call) → Follows bytes end calls → listed bytes ≡ text → Sound text end calls
sound text bytes end calls f e = record {
  laid = sym e ∙ lists bytes end calls f;
  end_within = f.end_within;
  within = f.within;
  small = subst (λ b. length b ≤ 60000) f.laid f.small;
}

sound_goes_on : (text : List ℕ) (end other : ℕ) (calls front : List Call) (rest : List ℕ) → Sound text end calls → OpensWith text other front rest → (end ≡ other) × Goes_on calls front rest
sound_goes_on text end other calls front rest s o =
    let same = same_end_line end other (flat_map call_line calls) (flat_map call_line front ++ rest) s.end_within o.end_within (sym s.laid ∙ o.laid ∙ append_assoc (end_line other) (flat_map call_line front) rest) in
    (same.0, goes_on calls front rest s.within o.within same.1)

-- a text is the listing of one schedule at most
sound_same : (text : List ℕ) (end other : ℕ) (calls others : List Call) → Sound text end calls → Sound text other others → encode end calls ≡ encode other others
sound_same text end other calls others s o =
    let on = sound_goes_on text end other calls others [] s (record { laid = o.laid ∙ sym (append-nil _); end_within = o.end_within; within = o.within }) in
    let none = ends_there [] UnknownCall on.1.more on.1.within on.1.rest_is refl in
    ap₂ encode on.0 (on.1.calls_are ∙ ap (λ l. others ++ l) none ∙ append-nil others)

-- such a text is refused for want of memory alone
pub sound_wants_memory : (text : List ℕ) (end : ℕ) (calls : List Call) (e : PackError) → Sound text end calls → Refuses text e → e ≡ NoMemory
sound_wants_memory text end calls (BadLine line why) s (inl first) = absurd (no_first end text (flat_map call_line calls) why first.1 s.end_within s.laid)
sound_wants_memory text end calls (BadLine line why) s (inr b) =
    let on = sound_goes_on text end b.end calls b.calls b.rest s b.before in
    let none = ends_there b.rest why on.1.more on.1.within on.1.rest_is b.broken in
    let empty = ap length (on.1.rest_is ∙ ap (flat_map call_line) none) in
    let more = b.more in
    absurd (omega arith)
sound_wants_memory text end calls TooLong s p =
    let on = sound_goes_on text end p.end calls p.calls p.rest s p.before in
    let bytes = ap length (ap (flat_map bytes_of) on.1.calls_are ∙ flat_map-append bytes_of p.calls on.1.more) ∙ length-append (flat_map bytes_of p.calls) (flat_map bytes_of on.1.more) in
    let small = s.small in
    let large = p.large in
    absurd (omega arith)
sound_wants_memory text end calls NoMemory s p = refl

-- what is packed of a listing is the file that was listed
undoes_the_listing : {V : Type 0} (items : V → List ℕ) (text : List ℕ) (r : Result V PackError) → MatchResult r (λ v. Packs text (items v)) (λ e. Refuses text e) → (bytes : List ℕ) (end : ℕ) (calls : List Call) → Follows bytes end calls → listed bytes ≡ text → MatchResult r (λ v. items v ≡ bytes) (λ e. e ≡ NoMemory)
undoes_the_listing items text (Ok v) p bytes end calls f e =
    p.follows.laid ∙ sound_same text p.end end p.calls calls (sound text (items v) p.end p.calls p.follows p.lists_as_the_text) (sound text bytes end calls f e) ∙ sym f.laid
undoes_the_listing items text (Err e) p bytes end calls f l = sound_wants_memory text end calls e (sound text bytes end calls f l) p

fit_sound : (text lines : List ℕ) (end size : ℕ) → text ≡ end_line end ++ lines → end < 2 ^ 32 → (fit : LinesFit lines size) → Sound text end fit.calls
fit_sound text lines end size first fits fit =
    let counted = fit.counted in
    let small = fit.small in
    record { laid = first ∙ ap (λ l. end_line end ++ l) fit.laid; end_within = fits; within = fit.within; small = omega arith }

pub packs_the_lines : (text lines bytes : List ℕ) (end size : ℕ) → text ≡ end_line end ++ lines → end < 2 ^ 32 → LinesFit lines size → WritesTheLines lines (encode end []) bytes → Packs text bytes
packs_the_lines text lines bytes end size first fits fit wrote =
    let on = goes_on fit.calls wrote.calls wrote.rest fit.within wrote.within (sym fit.laid ∙ wrote.laid) in
    let none = ends_there wrote.rest wrote.why on.more on.within on.rest_is wrote.stopped in
    let same : fit.calls ≡ wrote.calls = on.calls_are ∙ ap (λ l. wrote.calls ++ l) none ∙ append-nil wrote.calls in
    packs text bytes end fit.calls (fit_sound text lines end size first fits fit) (wrote.written ∙ ap (λ cs. encode end [] ++ flat_map bytes_of cs) (sym same))

pub wants_memory : (text lines : List ℕ) (end size : ℕ) → text ≡ end_line end ++ lines → end < 2 ^ 32 → LinesFit lines size → Refuses text NoMemory
wants_memory text lines end size first fits fit = (encode end fit.calls, packs text (encode end fit.calls) end fit.calls (fit_sound text lines end size first fits fit) refl)

-- what is answered, and that it undoes the listing
pub record Answers {V : Type 0} (items : V → List ℕ) (text : List ℕ) (r : Result V PackError) : Type 0 where
  pub told : MatchResult r (λ v. Packs text (items v)) (λ e. Refuses text e)
  pub law : (bytes : List ℕ) (end : ℕ) (calls : List Call) → Follows bytes end calls → listed bytes ≡ text → MatchResult r (λ v. items v ≡ bytes) (λ e. e ≡ NoMemory)

pub refused : {V : Type 0} (items : V → List ℕ) (text : List ℕ) (r : Result V PackError) (e : PackError) → r ≡ Err e → Refuses text e → Answers items text r
refused {V} items text r e is told = subst (Answers items text) (sym is) (record { told = told; law = undoes_the_listing {V = V} items text (Err e) told })

pub packed : {V : Type 0} (items : V → List ℕ) (text : List ℕ) (v : V) → Packs text (items v) → Answers items text (Ok v)
packed items text v told = record { told = told; law = undoes_the_listing items text (Ok v) told }

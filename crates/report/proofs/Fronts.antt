-- A list of which the front is left: the last of the front goes to the others.
use Rattle.std.proofs.Common.{◌≡◌, ℕ, ◌+◌, ◌-◌, ◌<◌, ◌≤◌, List, [], ◌∷◌, ◌++◌, length, take, drop, set, sym, ap, ◌∙◌, append_assoc, arith, refl, Fits, w64, slice_index_or, ◌^◌, get_or, length-drop, Result, MatchResult, Ok, Err, IsOk}
use Rattle.std.proofs.lemmas.List.{drop-set, take_all, take-append-drop}
use Rattle.std.proofs.Math.Seq.{drop-append_seam, get_or-append_seam}
use lib.Seq.{take-append_seam}

whole : (xs front left : List ℕ) (x : ℕ) → front ≡ take (length front) xs → front ≡ left ++ x ∷ [] → xs ≡ left ++ (x ∷ drop (length front) xs)
whole xs front left x is last =
    let done = drop (length front) xs in
    sym (take-append-drop (length front) xs)
    ∙ ap (λ l. l ++ done) (sym is ∙ last)
    ∙ append_assoc left (x ∷ []) done

pub front_less : (xs front left : List ℕ) (x : ℕ) → front ≡ take (length front) xs → front ≡ left ++ x ∷ [] → left ≡ take (length left) xs
front_less xs front left x is last = sym (ap (take (length left)) (whole xs front left x is last) ∙ take-append_seam left (x ∷ drop (length front) xs))

pub others_more : (xs front left : List ℕ) (x : ℕ) → front ≡ take (length front) xs → front ≡ left ++ x ∷ [] → drop (length left) xs ≡ x ∷ drop (length front) xs
others_more xs front left x is last = ap (drop (length left)) (whole xs front left x is last) ∙ drop-append_seam left (x ∷ drop (length front) xs)

-- one byte before what stands from a place on
pub byte_before : (line : List ℕ) (start b : ℕ) → 0 < start → start ≤ length line → drop (start - 1) (set line (start - 1) b) ≡ b ∷ drop start line
byte_before line start b some within = drop-set line (start - 1) b (omega arith) ∙ ap (λ k. b ∷ drop k line) {x = start - 1 + 1} {y = start} (omega arith)

-- and it is one of the list
pub member_fits : (xs front left : List ℕ) (x : ℕ) → front ≡ take (length front) xs → front ≡ left ++ x ∷ [] → ((i : ℕ) → Fits w64 (slice_index_or xs i 0)) → x < 2 ^ 64
member_fits xs front left x is last all =
    let here = ap (λ l. get_or l (length left) 0) (whole xs front left x is last) ∙ get_or-append_seam left x (drop (length front) xs) 0 in
    omega (arith, here, all (length left))

-- all that stands from a place on
pub from_all : (line : List ℕ) (start size : ℕ) → length line ≡ size → take (size - start) (drop start line) ≡ drop start line
from_all line start size is = take_all (size - start) (drop start line) (omega (arith, length-drop start line))

-- a test that only refuses what is not A
pub cases_ok : {T E : Type 0} (r : Result T E) (P : T → Type 0) (Q : E → Type 0) (A : Type 0) → MatchResult r P (λ e. (A → ⊥) × Q e) → A → IsOk r
cases_ok (Ok x) P Q A cases is = refl
cases_ok (Err e) P Q A cases is = absurd (cases.0 is)

-- What searches in a row say of the rules of arrivals.
use Rattle.std.proofs.Common.{◌≡◌, ℕ, suc, ◌+◌, ◌≤◌, Bool, true, false, cond, ltb, List, [], ◌∷◌, map, length, is_some, Some, None, sym, refl, ap, ◌∙◌, add-one, arith}
use Rattle.std.proofs.lemmas.Bool.{lt-ltb, true≢false}
use Rattle.std.proofs.lemmas.List.{length-map}
use Rattle.std.proofs.lemmas.Bool.Decides.{nat_tests}
use Rattle.rows.specs.Order.{same}
use Rattle.rows.specs.Rows.{first_at, first_of, place_of, within, without_one}
use Rattle.rows.proofs.Laws.{place_within}
use Rattle.bus.specs.declared.Message.{Message}
use Rattle.bus.specs.Order.{message_before}
use Rattle.model.specs.State.{Event}
use Rattle.model.specs.Deliver.{has, not_after}

ltb_step : (a b : ℕ) → ltb a b ≡ ltb (suc a) (suc b)
ltb_step a b = grind (arith, nat_tests)

has_at : (x : Message) (row : List Message) → has x row ≡ ltb (first_at (same message_before x) row) (length row)
has_at x [] = refl
has_at x (y ∷ ys) =
    let n = first_at (same message_before x) ys in
    let r : has x ys ≡ ltb (suc n) (suc (length ys)) = has_at x ys ∙ ltb_step n (length ys) in
    let z : true ≡ ltb 0 (suc (length ys)) = sym (lt-ltb 0 (suc (length ys)) (omega arith)) in
    elim (same message_before x y) as (λ b. cond b true (has x ys) ≡ ltb (cond b 0 (suc n)) (suc (length ys))) [
      | true ↦ z
      | false ↦ r
    ]

some_within : (xs : List Message) (at : ℕ) → is_some (within xs at) ≡ ltb at (length xs)
some_within xs at = elim (ltb at (length xs)) as (λ b. is_some (cond b (Some at) None) ≡ b) [ true ↦ refl | false ↦ refl ]

-- a search finds what a row has
pub found_is : (m : Message) (xs : List Message) → is_some (first_of message_before m xs) ≡ has m xs
found_is m xs = some_within xs (first_at (same message_before m) xs) ∙ sym (has_at m xs)

without_none : (m : Message) (xs : List Message) → has m xs ≡ false → without_one message_before m xs ≡ xs
without_none m [] e = refl
without_none m (x ∷ xs) e =
    let both : (b : Bool) → cond b true (has m xs) ≡ false → cond b xs (x ∷ without_one message_before m xs) ≡ x ∷ xs = λ b.
    elim b as (λ b. cond b true (has m xs) ≡ false → cond b xs (x ∷ without_one message_before m xs) ≡ x ∷ xs) [
      | true ↦ λ h. absurd (true≢false h)
      | false ↦ λ h. ap (λ zs. x ∷ zs) (without_none m xs h)
    ] in
    both (same message_before m x) e

pub not_found : (m : Message) (xs : List Message) → None ≡ first_of message_before m xs → without_one message_before m xs ≡ xs
not_found m xs e = without_none m xs (sym (ap is_some e ∙ found_is m xs))

not_after_at : (x : Message) (es : List Event) → not_after x es ≡ place_of message_before x (map (λ (e : Event). e.message) es)
not_after_at x [] = refl
not_after_at x (e ∷ es) = ap (λ (n : ℕ). cond (message_before x e.message) 0 n) (ap (λ (n : ℕ). n + 1) (not_after_at x es) ∙ add-one (place_of message_before x (map (λ (e : Event). e.message) es)))

pub not_after_within : (m : Message) (es : List Event) → not_after m es ≤ length es
not_after_within m es =
    omega (arith, not_after_at m es, place_within message_before m (map (λ (e : Event). e.message) es), length-map es (λ (e : Event). e.message))

-- the place among the standing messages
pub placed_is : (es : List Event) (m : Message) → place_of message_before m (map (λ (e : Event). e.message) es) ≡ not_after m es
placed_is es m = sym (not_after_at m es)

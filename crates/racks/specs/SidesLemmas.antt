-- A call on one of two racks, as a call on both.
use Rattle.std.specs.Prelude.{◌≡◌, ℕ, zero, suc, ◌+◌, ◌-◌, ◌<◌, ◌≤◌, min, cond, ltb, List, [], ◌∷◌, ◌++◌, length, Err, Result, nat_lt, slice_set, refl}
use Rattle.std.proofs.Common.{sym, ap, subst, ◌∙◌, ⊎_elim, arith, length-append}
use Rattle.std.proofs.lemmas.List.{get_or_append_left, get_or-append_right, set-append_left, set-append_right}
use Rattle.std.proofs.lemmas.Bool.{lt-ltb, cases_lt}
use Rattle.std.proofs.lemmas.Bool.Decides.{nat_tests}
use Rattle.bus.specs.Reactions.{Rule, unmoved}
use Rattle.savers.specs.declared.refusal.Refusal.{Refusal as SaverRefusal}
use Rattle.savers.specs.Rows.{Row, longest}
use Rattle.racks.specs.declared.refusal.Refusal.{Refusal}
use Rattle.racks.specs.declared.refusal.Refusal.TheVariants.{NoBoard}
use Rattle.racks.specs.Racks.{Sized, rule_at, row_at, passed_on, at_address}

-- ---- the laws of racks

pub levels : (rows rows' : List Row) (rules rules' : List Rule) → length rows ≡ length rules → length rows' ≡ length rules'
    → length (rows ++ rows') ≡ length (rules ++ rules')
levels rows rows' rules rules' e e' = omega (arith, length-append rows rows', length-append rules rules')

pub one_sized : (row : Row) → 1 ≤ length row → length row ≤ longest → Sized (row ∷ [])
one_sized row begun bounded zero lt = (begun, bounded)
one_sized row begun bounded (suc k) lt = absurd (omega arith)

pub both_sized : (rows rows' : List Row) → Sized rows → Sized rows' → Sized (rows ++ rows')
both_sized rows rows' sized sized' k lt =
    let P : Row → Type 0 = λ row. (1 ≤ length row) × (length row ≤ longest) in
    ⊎_elim
    (λ (below : k < length rows). subst P (sym (get_or_append_left rows rows' [] k below)) (sized k below))
    (λ (above : length rows ≤ k).
    subst P (sym (get_or-append_right rows rows' (length rows) k [] refl above)) (sized' (k - length rows) (omega (arith, length-append rows rows'))))
    (cases_lt k (length rows))

pub counts : (rules rules' : List Rule) (a b r : ℕ) → a ≡ min (length rules) 256 → b ≡ min (length rules') 256 → r ≡ min (a + b) 256
    → r ≡ min (length (rules ++ rules')) 256
counts rules rules' a b r e e' e'' = omega (arith, length-append rules rules')

-- ---- the left rack has address k, as its address j

module _ (rows rows' : List Row) (rules : List Rule) (k j : ℕ) (level : length rows ≡ length rules) (at : (k < length rules) × (j ≡ k)) where
  within : j < length rows
  within = omega arith

  same_row : row_at rows j ≡ row_at (rows ++ rows') k
  same_row = sym (get_or_append_left rows rows' [] j within) ∙ ap (row_at (rows ++ rows')) at.1

  same_test : ltb j (length rows) ≡ nat_lt k (length (rows ++ rows'))
  same_test = lt-ltb j (length rows) within ∙ sym (lt-ltb k (length (rows ++ rows')) (omega (arith, length-append rows rows')))

  pub left_rows : (f : Row → Row) {after : List Row} → after ≡ slice_set rows j (f (row_at rows j)) → after ++ rows' ≡ slice_set (rows ++ rows') k (f (row_at (rows ++ rows') k))
  left_rows f e =
      ap (λ xs. xs ++ rows') (e ∙ ap (λ row. slice_set rows j (f row)) same_row)
      ∙ sym (set-append_left rows rows' j (f (row_at (rows ++ rows') k)) within)
      ∙ ap (λ i. slice_set (rows ++ rows') i (f (row_at (rows ++ rows') k))) at.1

  pub left_answer : {T : Type 0} (f : Row → Result T SaverRefusal) {r : Result T Refusal} → r ≡ at_address rows j (f (row_at rows j)) → r ≡ at_address (rows ++ rows') k (f (row_at (rows ++ rows') k))
  left_answer f e =
      e ∙ ap (λ b. cond b (passed_on (f (row_at rows j))) (Err NoBoard)) same_test
      ∙ ap (λ row. at_address (rows ++ rows') k (f row)) same_row

pub left_rule : (rules rules' : List Rule) (k j : ℕ) → (k < length rules) × (j ≡ k) → rule_at rules j ≡ rule_at (rules ++ rules') k
left_rule rules rules' k j at = sym (get_or_append_left rules rules' unmoved j (omega arith)) ∙ ap (rule_at (rules ++ rules')) at.1

-- ---- the right rack has it

module _ (rows rows' : List Row) (rules : List Rule) (k j : ℕ) (level : length rows ≡ length rules) (at : (length rules ≤ k) × (j ≡ k - length rules)) where
  same_row' : row_at rows' j ≡ row_at (rows ++ rows') k
  same_row' = ap (row_at rows') at.1 ∙ sym (get_or-append_right rows rows' (length rules) k [] level at.0)

  same_test' : ltb j (length rows') ≡ nat_lt k (length (rows ++ rows'))
  same_test' = let whole = length-append rows rows' in grind (arith, nat_tests)

  pub right_rows : (f : Row → Row) {after : List Row} → after ≡ slice_set rows' j (f (row_at rows' j)) → rows ++ after ≡ slice_set (rows ++ rows') k (f (row_at (rows ++ rows') k))
  right_rows f e =
      ap (λ xs. rows ++ xs) (e ∙ ap (λ row. slice_set rows' j (f row)) same_row' ∙ ap (λ i. slice_set rows' i (f (row_at (rows ++ rows') k))) at.1)
      ∙ sym (set-append_right rows rows' (length rules) k (f (row_at (rows ++ rows') k)) level at.0)

  pub right_answer : {T : Type 0} (f : Row → Result T SaverRefusal) {r : Result T Refusal} → r ≡ at_address rows' j (f (row_at rows' j)) → r ≡ at_address (rows ++ rows') k (f (row_at (rows ++ rows') k))
  right_answer f e =
      e ∙ ap (λ b. cond b (passed_on (f (row_at rows' j))) (Err NoBoard)) same_test'
      ∙ ap (λ row. at_address (rows ++ rows') k (f row)) same_row'

pub right_rule : (rules rules' : List Rule) (k j : ℕ) → (length rules ≤ k) × (j ≡ k - length rules) → rule_at rules' j ≡ rule_at (rules ++ rules') k
right_rule rules rules' k j at = ap (rule_at rules') at.1 ∙ sym (get_or-append_right rules rules' (length rules) k unmoved refl at.0)

-- A refused call leaves all rows.
use Rattle.std.proofs.Common.{◌≡◌, ℕ, Bool, true, false, cond, ltb, List, [], length, set, Ok, Err, Result, refl, ap, ◌∙◌}
use Rattle.std.proofs.lemmas.List.{set_past, set-get_or}
use Rattle.std.proofs.lemmas.Bool.{ltb-false}
use Rattle.savers.specs.declared.refusal.Refusal.{Refusal as SaverRefusal}
use Rattle.savers.specs.Rows.{Row}
use Rattle.savers.proofs.Refused as saver
use Rattle.racks.specs.declared.refusal.Refusal.{Refusal}
use Rattle.racks.specs.declared.refusal.Refusal.TheVariants.{NoBoard}
use Rattle.racks.specs.Racks.{rule_at, row_at, passed_on, at_address}
use Rattle.racks.specs.Refusals.{RefusedBeginLeavesTheRows, RefusedTakeLeavesTheRows, RefusedBackLeavesTheRows, RefusedForgetLeavesTheRows}

-- a row that stays where its saver refuses, among the others
module _ {T : Type 0} (rows : List Row) (k : ℕ) (row' : Row) (e : Refusal) where
  among : (answer : Result T SaverRefusal) → ((why : SaverRefusal) → answer ≡ Err why → row' ≡ row_at rows k)
      → (there : Bool) → ltb k (length rows) ≡ there → cond there (passed_on answer) (Err NoBoard) ≡ Err e → set rows k row' ≡ rows
  among (Ok x) stays true h p = absurd (saver.ok_is_no_refusal x e p)
  among (Err why) stays true h p = ap (set rows k) (stays why refl) ∙ set-get_or rows k []
  among answer stays false h p = set_past rows k row' (ltb-false k (length rows) h)

  rows_stay : (answer : Result T SaverRefusal) → ((why : SaverRefusal) → answer ≡ Err why → row' ≡ row_at rows k)
      → at_address rows k answer ≡ Err e → set rows k row' ≡ rows
  rows_stay answer stays p = among answer stays (ltb k (length rows)) refl p

pub begin_refused : RefusedBeginLeavesTheRows
begin_refused rows k start e p = rows_stay rows k _ e (Ok tt) (λ why q. absurd (saver.ok_is_no_refusal tt why q)) p

pub take_refused : RefusedTakeLeavesTheRows
take_refused rules rows k m e p = rows_stay rows k _ e _ (λ why q. saver.take_refused (rule_at rules k) (row_at rows k) m why q) p

pub back_refused : RefusedBackLeavesTheRows
back_refused rows k n e p = rows_stay rows k _ e _ (λ why q. saver.back_refused (row_at rows k) n why q) p

pub forget_refused : RefusedForgetLeavesTheRows
forget_refused rows k n e p = rows_stay rows k _ e _ (λ why q. saver.forget_refused (row_at rows k) n why q) p

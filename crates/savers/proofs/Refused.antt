-- A refused call leaves the row.
use Rattle.std.proofs.Common.{◌≡◌, Bool, true, false, cond, is_ok, Ok, Err, Result, refl, ap}
use Rattle.std.proofs.lemmas.Bool.{true≢false}
use Rattle.savers.specs.declared.refusal.Refusal.{Refusal}
use Rattle.savers.specs.declared.refusal.Refusal.TheVariants.{Full, TooFew}
use Rattle.savers.specs.Rows.{Row, has, has_room}
use Rattle.savers.specs.Refusals.{RefusedTakeLeavesTheRow, RefusedBackLeavesTheRow, RefusedForgetLeavesTheRow}

pub ok_is_no_refusal : {T E : Type 0} (x : T) (e : E) → ◌≡◌ {A = Result T E} (Ok x) (Err e) → ⊥
ok_is_no_refusal x e p = true≢false (ap is_ok p)

-- what one test decides together with a refusal
stays : {T : Type 0} (test : Bool) (x : T) (why e : Refusal) (row' row : Row) → cond test (Ok x) (Err why) ≡ Err e → cond test row' row ≡ row
stays true x why e row' row p = absurd (ok_is_no_refusal x e p)
stays false x why e row' row p = refl

pub take_refused : RefusedTakeLeavesTheRow
take_refused rule row m e p = stays (has_room row) _ Full e _ row p

pub back_refused : RefusedBackLeavesTheRow
back_refused row n e p = stays (has row n) tt TooFew e _ row p

pub forget_refused : RefusedForgetLeavesTheRow
forget_refused row n e p = stays (has row n) tt TooFew e _ row p

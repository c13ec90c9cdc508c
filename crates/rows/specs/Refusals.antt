-- The numbers of refusals.
use Rattle.std.specs.Prelude.{ℕ}
use Rattle.rows.specs.declared.refusal.Refusal.{Refusal}
use Rattle.rows.specs.declared.refusal.Refusal.TheVariants.{Full}

abbrev pub refusal_number : Refusal → ℕ
refusal_number Full = 19

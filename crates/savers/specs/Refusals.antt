-- The numbers of the refusals, and what a refused call leaves.
use Rattle.std.specs.Prelude.{◌≡◌, ℕ, Err}
use Rattle.bus.specs.declared.Message.{Message}
use Rattle.bus.specs.Reactions.{Rule}
use Rattle.savers.specs.declared.refusal.Refusal.{Refusal}
use Rattle.savers.specs.declared.refusal.Refusal.TheVariants.{Full, TooFew}
use Rattle.savers.specs.Rows.{Row, row_taken, answer_taken, row_back, row_forgot, answer_if_has}

abbrev pub number_of : Refusal → ℕ
number_of Full = 27
number_of TooFew = 28

abbrev pub RefusedTakeLeavesTheRow : Type 0
RefusedTakeLeavesTheRow = (rule : Rule) (row : Row) (m : Message) (e : Refusal) → answer_taken rule row m ≡ Err e → row_taken rule row m ≡ row

abbrev pub RefusedBackLeavesTheRow : Type 0
RefusedBackLeavesTheRow = (row : Row) (n : ℕ) (e : Refusal) → answer_if_has row n ≡ Err e → row_back row n ≡ row

abbrev pub RefusedForgetLeavesTheRow : Type 0
RefusedForgetLeavesTheRow = (row : Row) (n : ℕ) (e : Refusal) → answer_if_has row n ≡ Err e → row_forgot row n ≡ row

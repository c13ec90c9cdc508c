-- The numbers of the refusals, and what a refused call leaves.
use Rattle.std.specs.Prelude.{◌≡◌, ℕ, List, Err}
use Rattle.bus.specs.declared.Message.{Message}
use Rattle.bus.specs.declared.Words.{Words}
use Rattle.bus.specs.Reactions.{Rule}
use Rattle.savers.specs.Rows.{Row}
use Rattle.savers.specs.Refusals.{number_of as saver_number_of}
use Rattle.racks.specs.declared.refusal.Refusal.{Refusal}
use Rattle.racks.specs.declared.refusal.Refusal.TheVariants.{NoBoard, Saver}
use Rattle.racks.specs.Racks.{rows_begun, rows_taken, rows_back, rows_forgot, answers_begun, answers_taken, answers_if_has}

abbrev pub number_of : Refusal → ℕ
number_of NoBoard = 1
number_of (Saver e) = saver_number_of e

abbrev pub RefusedBeginLeavesTheRows : Type 0
RefusedBeginLeavesTheRows =
    (rows : List Row) (k : ℕ) (start : Words) (e : Refusal) → answers_begun rows k ≡ Err e → rows_begun rows k start ≡ rows

abbrev pub RefusedTakeLeavesTheRows : Type 0
RefusedTakeLeavesTheRows =
    (rules : List Rule) (rows : List Row) (k : ℕ) (m : Message) (e : Refusal) → answers_taken rules rows k m ≡ Err e → rows_taken rules rows k m ≡ rows

abbrev pub RefusedBackLeavesTheRows : Type 0
RefusedBackLeavesTheRows = (rows : List Row) (k n : ℕ) (e : Refusal) → answers_if_has rows k n ≡ Err e → rows_back rows k n ≡ rows

abbrev pub RefusedForgetLeavesTheRows : Type 0
RefusedForgetLeavesTheRows = (rows : List Row) (k n : ℕ) (e : Refusal) → answers_if_has rows k n ≡ Err e → rows_forgot rows k n ≡ rows

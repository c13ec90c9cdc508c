-- The numbers of the refusals.
use Rattle.std.specs.Prelude.{ℕ}
use Rattle.model.specs.declared.refusal.Refusal.{Refusal}
use Rattle.model.specs.declared.refusal.Refusal.TheVariants.{NoBoard, PastEnd, BeforeLastLine, TransitFull, BoardFull, NothingOpen, NoItem, OffersSpent, RunsSpent}

abbrev pub refusal_number : Refusal → ℕ
refusal_number NoBoard = 1
refusal_number PastEnd = 2
refusal_number BeforeLastLine = 20
refusal_number TransitFull = 21
refusal_number BoardFull = 22
refusal_number NothingOpen = 23
refusal_number NoItem = 24
refusal_number OffersSpent = 25
refusal_number RunsSpent = 26

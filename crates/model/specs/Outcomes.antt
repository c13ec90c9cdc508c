-- Answers as outcomes: a commit's outcome has the number of its lines, which stand in memory.
use Rattle.std.specs.Prelude.{ℕ, length}
use Rattle.model.specs.declared.outcome.Outcome.{Outcome}
use Rattle.model.specs.declared.outcome.Outcome.TheVariants.{Offered, Delivered, Ran, Looked, Committed, Refused}
use Rattle.model.specs.State.{Answer, refused, offered, delivered, ran, looked, committed}

abbrev pub outcome_of : Answer → Outcome
outcome_of (refused e) = Refused e
outcome_of (offered n) = Offered n
outcome_of (delivered n) = Delivered n
outcome_of (ran n) = Ran n
outcome_of (looked o) = Looked o
outcome_of (committed ls) = Committed (length ls)

-- how many lines an outcome tells
abbrev pub lines_in : Outcome → ℕ
lines_in (Offered n) = 0
lines_in (Delivered n) = 0
lines_in (Ran n) = 0
lines_in (Looked o) = 0
lines_in (Committed n) = n
lines_in (Refused e) = 0

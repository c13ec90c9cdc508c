-- The text of outcomes, whose lines stand one behind the other in a log.
use Rattle.std.specs.Prelude.{ℕ, ◌+◌, List, [], ◌∷◌, ◌++◌, take, drop}
use Rattle.std.specs.List.{flat_map}
use Rattle.bus.specs.declared.Message.{Message}
use Rattle.report.specs.Lines.{log_line}
use Rattle.model.specs.declared.outcome.Outcome.{Outcome}
use Rattle.model.specs.declared.outcome.Outcome.TheVariants.{Offered, Delivered, Ran, Looked, Committed, Refused}
use Rattle.model.specs.Outcomes.{lines_in}
use Rattle.playing.specs.Texts.{refusal_line, undone_line, outlook_line}

-- the outcome of the call with this index, and the lines that the call wrote
abbrev pub outcome_text : ℕ → Outcome → List Message → List ℕ
outcome_text index (Offered n) ls = []
outcome_text index (Delivered n) ls = undone_line n
outcome_text index (Ran n) ls = []
outcome_text index (Looked o) ls = outlook_line o
outcome_text index (Committed n) ls = flat_map log_line ls
outcome_text index (Refused e) ls = refusal_line index e

-- each call's lines stand in front of the later ones'
abbrev pub outcomes_text : ℕ → List Outcome → List Message → List ℕ
outcomes_text index [] log = []
outcomes_text index (o ∷ os) log = outcome_text index o (take (lines_in o) log) ++ outcomes_text (index + 1) os (drop (lines_in o) log)

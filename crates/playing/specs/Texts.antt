-- The text of a run: what is told of each call, in call order, and the totals. Each line ends with code 10.
use Rattle.std.specs.Prelude.{ℕ, ◌+◌, cond, List, [], ◌∷◌, ◌++◌, length, Some, None, codes, decimal, Option, ◌==◌}
use Rattle.std.specs.List.{flat_map}
use Rattle.bus.specs.declared.Message.{Message}
use Rattle.bus.specs.Lines.{fields}
use Rattle.report.specs.Lines.{log_line}
use Rattle.model.specs.declared.refusal.Refusal.{Refusal}
use Rattle.model.specs.Refusals.{refusal_number}
use Rattle.model.specs.State.{State, Answer, refused, offered, delivered, ran, looked, committed, standing}

-- R, the call's index and the refusal's number
abbrev pub refusal_line : ℕ → Refusal → List ℕ
refusal_line index e = codes "R " ++ decimal index ++ codes " " ++ decimal (refusal_number e) ++ 10 ∷ []

-- U and how many events a delivery undid; no line if it undid none
abbrev pub undone_line : ℕ → List ℕ
undone_line n = cond (n == 0) [] (codes "U " ++ decimal n ++ 10 ∷ [])

-- G and the least message outstanding, or a dash
abbrev pub outlook_line : Option Message → List ℕ
outlook_line None = codes "G -" ++ 10 ∷ []
outlook_line (Some m) = codes "G " ++ fields m ++ 10 ∷ []

-- what is told of the call with this index
abbrev pub answer_text : ℕ → Answer → List ℕ
answer_text index (refused e) = refusal_line index e
answer_text index (offered n) = []
answer_text index (delivered n) = undone_line n
answer_text index (ran n) = []
answer_text index (looked o) = outlook_line o
answer_text index (committed ls) = flat_map log_line ls

-- what is told of the calls from this index on
abbrev pub answers_text : ℕ → List Answer → List ℕ
answers_text index [] = []
answers_text index (a ∷ rest) = answer_text index a ++ answers_text (index + 1) rest

-- E, and how many lines were committed, how many events stand, and how many were undone
abbrev pub totals_line : ℕ → ℕ → ℕ → List ℕ
totals_line written stand back = codes "E " ++ decimal written ++ codes " " ++ decimal stand ++ codes " " ++ decimal back ++ 10 ∷ []

abbrev pub totals_text : State → List ℕ
totals_text s = totals_line s.counters.committed (length (standing s)) s.counters.undone

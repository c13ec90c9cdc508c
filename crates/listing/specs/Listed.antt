-- The text that is printed of a file.
use Rattle.std.specs.Prelude.{ℕ, List, [], ◌∷◌, ◌++◌, Ok, Err, codes, decimal}
use Rattle.std.specs.List.{flat_map}
use Rattle.schedule.specs.declared.call.Call.{Call}
use Rattle.schedule.specs.Lines.{call_text, fault_text}
use Rattle.schedule.specs.Reading.{reading}

-- a call, and the end of its line
abbrev pub call_line : Call → List ℕ
call_line call = call_text call ++ 10 ∷ []

-- the first line, with the end time
abbrev pub end_line : ℕ → List ℕ
end_line end = codes "end " ++ decimal end ++ 10 ∷ []

-- the whole text
abbrev pub listed : List ℕ → List ℕ
listed bytes = elim (reading bytes) [ Ok s ↦ end_line s.0 ++ flat_map call_line s.1 | Err fault ↦ fault_text fault ++ 10 ∷ [] ]

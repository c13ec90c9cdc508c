-- Worked files: one that is sound, and one for each fault.
use Rattle.std.specs.Prelude.{◌≡◌, ℕ, List, [], ◌∷◌, ◌++◌, length, take, replicate, Some, Ok}
use Rattle.schedule.specs.declared.call.Call.{Call}
use Rattle.schedule.specs.declared.call.Call.TheVariants.{Offer, Deliver, Run, Outlook, Commit}
use Rattle.schedule.specs.declared.file.Layer.TheVariants as layer
use Rattle.schedule.specs.declared.file.Refusal.TheVariants.{BelowHeader, OtherEdition, UnknownLetter, CutShort, TooLong}
use Rattle.schedule.specs.Layout.{encode}
use Rattle.schedule.specs.Faults.{fault_of}
use Rattle.schedule.specs.Reading.{reading}

-- two cards for the reader, the later one first, and a rollback
abbrev pub example_bytes : List ℕ
example_bytes =
    1 ∷ 0 ∷ 232 ∷ 3 ∷ 0 ∷ 0
    ∷ 111 ∷ 10 ∷ 0 ∷ 0 ∷ 0 ∷ 1 ∷ 2 ∷ 77 ∷ 0 ∷ 0 ∷ 0
    ∷ 111 ∷ 30 ∷ 0 ∷ 0 ∷ 0 ∷ 1 ∷ 2 ∷ 5 ∷ 0 ∷ 0 ∷ 0
    ∷ 100 ∷ 1 ∷ 0 ∷ 114 ∷ 1 ∷ 100 ∷ 0 ∷ 0 ∷ 103 ∷ 100 ∷ 1 ∷ 0 ∷ 100 ∷ 0 ∷ 0 ∷ 114 ∷ 1
    ∷ 99 ∷ 8 ∷ 0 ∷ 114 ∷ 0 ∷ 100 ∷ 0 ∷ 0 ∷ 114 ∷ 0 ∷ 100 ∷ 0 ∷ 0 ∷ 114 ∷ 1 ∷ 103
    ∷ 99 ∷ 8 ∷ 0 ∷ []

abbrev pub example_calls : List Call
example_calls =
    Offer 10 1 2 77 ∷ Offer 30 1 2 5 ∷ Deliver 1 ∷ Run 1 ∷ Deliver 0 ∷ Outlook ∷ Deliver 1 ∷ Deliver 0 ∷ Run 1
    ∷ Commit 8 ∷ Run 0 ∷ Deliver 0 ∷ Run 0 ∷ Deliver 0 ∷ Run 1 ∷ Outlook ∷ Commit 8 ∷ []

abbrev pub TheExampleReadsAsItsCalls : Type 0
TheExampleReadsAsItsCalls =
    (length example_bytes ≡ 64) × (length example_calls ≡ 17) × (encode 1000 example_calls ≡ example_bytes)
    × (reading example_bytes ≡ Ok (1000, example_calls))

-- one file for each fault
pub record WorkedFilesHaveTheirFaults : Type 0 where
  pub empty : fault_of [] ≡ Some (record { layer = layer.File; offset = 0; refusal = BelowHeader })
  pub five_bytes : fault_of (take 5 example_bytes) ≡ Some (record { layer = layer.File; offset = 5; refusal = BelowHeader })
  pub other_edition : fault_of (2 ∷ 0 ∷ 9 ∷ 0 ∷ 0 ∷ 0 ∷ []) ≡ Some (record { layer = layer.File; offset = 0; refusal = OtherEdition })
  pub swapped_edition : fault_of (0 ∷ 1 ∷ 9 ∷ 0 ∷ 0 ∷ 0 ∷ []) ≡ Some (record { layer = layer.File; offset = 0; refusal = OtherEdition })
  pub unknown_letter : fault_of (encode 9 (Outlook ∷ []) ++ 120 ∷ []) ≡ Some (record { layer = layer.Call; offset = 7; refusal = UnknownLetter })
  pub cut_short : fault_of (take 63 example_bytes) ≡ Some (record { layer = layer.Number; offset = 61; refusal = CutShort })
  pub too_long : fault_of (replicate 60001 0) ≡ Some (record { layer = layer.File; offset = 60000; refusal = TooLong })

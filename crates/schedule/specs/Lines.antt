-- The text of a call and of a fault, and the numbers of layers and refusals.
use Rattle.std.specs.Prelude.{ℕ, List, ◌++◌, codes, decimal}
use Rattle.schedule.specs.declared.call.Call.{Call}
use Rattle.schedule.specs.declared.call.Call.TheVariants.{Offer, Deliver, Run, Outlook, Commit}
use Rattle.schedule.specs.declared.file.Fault.{Fault}
use Rattle.schedule.specs.declared.file.Layer.{Layer}
use Rattle.schedule.specs.declared.file.Layer.TheVariants as layers
use Rattle.schedule.specs.declared.file.Refusal.{Refusal}
use Rattle.schedule.specs.declared.file.Refusal.TheVariants.{BelowHeader, OtherEdition, UnknownLetter, CutShort, TooLong}

-- a call's letter and its numbers
abbrev pub call_text : Call → List ℕ
call_text (Offer time destination kind payload) = codes "o " ++ decimal time ++ codes " " ++ decimal destination ++ codes " " ++ decimal kind ++ codes " " ++ decimal payload
call_text (Deliver index) = codes "d " ++ decimal index
call_text (Run board) = codes "r " ++ decimal board
call_text Outlook = codes "g"
call_text (Commit most) = codes "c " ++ decimal most

abbrev pub layer_number : Layer → ℕ
layer_number layers.File = 1
layer_number layers.Call = 2
layer_number layers.Number = 3

abbrev pub refusal_number : Refusal → ℕ
refusal_number BelowHeader = 3
refusal_number OtherEdition = 4
refusal_number UnknownLetter = 5
refusal_number CutShort = 6
refusal_number TooLong = 7

-- F, the layer, the offset and the refusal
abbrev pub fault_text : Fault → List ℕ
fault_text f = codes "F " ++ decimal (layer_number f.layer) ++ codes " " ++ decimal f.offset ++ codes " " ++ decimal (refusal_number f.refusal)

-- What is wrong with a file that does not follow the layout: the first thing in the order of the checks.
use Rattle.std.specs.Prelude.{◌≡◌, ℕ, zero, suc, ◌+◌, ◌*◌, ◌^◌, ◌<◌, cond, ◌↔◌, List, [], ◌∷◌, ◌++◌, length, drop, Some, None, Ok, Err, Option, Result, ◌==◌, nat_lt, slice_index}
use Rattle.std.specs.Option.{unwrap_or}
use Rattle.std.specs.List.{All}
use Rattle.schedule.specs.declared.call.Call as calls
use Rattle.schedule.specs.declared.call.CallFault.{CallFault}
use Rattle.schedule.specs.declared.call.CallFault.TheVariants as of_call
use Rattle.schedule.specs.Layout.{most_bytes, edition_now, header_size, offer_letter, deliver_letter, run_letter, outlook_letter, commit_letter, encode, Within}
use Rattle.schedule.specs.declared.file.Fault.{Fault}
use Rattle.schedule.specs.declared.file.Layer.TheVariants.{File, Call, Number}
use Rattle.schedule.specs.declared.file.Refusal.{Refusal}
use Rattle.schedule.specs.declared.file.Refusal.TheVariants.{BelowHeader, OtherEdition, UnknownLetter, CutShort, TooLong}

-- how many bytes follow a call's letter; None for a letter that opens no call
abbrev pub size : ℕ → Option ℕ
size letter =
    cond (letter == offer_letter) (Some 10) (
    cond (letter == deliver_letter) (Some 2) (
    cond (letter == run_letter) (Some 1) (
    cond (letter == outlook_letter) (Some 0) (
    cond (letter == commit_letter) (Some 2) None))))

-- what the call layer says of a letter and the bytes that follow it
abbrev pub call_fault : ℕ → List ℕ → Option CallFault
call_fault letter rest = elim (size letter) [ None ↦ Some of_call.UnknownLetter | Some n ↦ cond (nat_lt (length rest) n) (Some (of_call.Number (record {}))) None ]

-- the same, once the file layer has added the offset
abbrev pub placed : ℕ → CallFault → Fault
placed at (of_call.Number _) = record { layer = Number; offset = at; refusal = CutShort }
placed at of_call.UnknownLetter = record { layer = Call; offset = at; refusal = UnknownLetter }

abbrev pub placed_result : {T : Type 0} → ℕ → Result T CallFault → Result T Fault
placed_result at (Ok value) = Ok value
placed_result at (Err fault) = Err (placed at fault)

-- the first call, from the offset on, that is at fault; the bytes to skip are the numbers of the call before
abbrev pub calls_fault : (offset skip : ℕ) → List ℕ → Option Fault
calls_fault offset skip [] = None
calls_fault offset (suc skip) (number ∷ rest) = calls_fault (offset + 1) skip rest
calls_fault offset zero (letter ∷ rest) =
    elim (call_fault letter rest) [ None ↦ calls_fault (offset + 1) (unwrap_or (size letter) 0) rest | Some f ↦ Some (placed offset f) ]

-- a fault that the file layer meets itself
abbrev pub in_file : ℕ → Refusal → Fault
in_file at why = record { layer = File; offset = at; refusal = why }

abbrev pub edition : List ℕ → ℕ
edition bytes = slice_index bytes 0 + slice_index bytes 1 * 256

-- what is wrong with the length or the header, in the order of the checks
abbrev pub header_fault : List ℕ → Option Fault
header_fault bytes =
    cond (nat_lt most_bytes (length bytes)) (Some (in_file most_bytes TooLong)) (
    cond (nat_lt (length bytes) header_size) (Some (in_file (length bytes) BelowHeader)) (
    cond (edition bytes == edition_now) None (Some (in_file 0 OtherEdition))))

-- the fault of a file, if it has one
abbrev pub fault_of : List ℕ → Option Fault
fault_of bytes = elim (header_fault bytes) [ None ↦ calls_fault header_size 0 (drop header_size bytes) | Some f ↦ Some f ]

-- the file follows the layout up to a call that is at fault
pub record BreaksOff (bytes : List ℕ) (fault : Fault) : Type 0 where
  pub end : ℕ
  pub before : List calls.Call
  pub letter : ℕ
  pub rest : List ℕ
  pub why : CallFault
  pub laid : bytes ≡ encode end before ++ letter ∷ rest
  pub end_within : end < 2 ^ 32
  pub within : All Within before
  pub broken : call_fault letter rest ≡ Some why
  pub told : fault ≡ placed (length (encode end before)) why

-- the law: past the header, the fault is that of the first call at which the layout breaks off
abbrev pub FaultsWhereItBreaksOff : List ℕ → Type 0
FaultsWhereItBreaksOff bytes = (fault : Fault) → header_fault bytes ≡ None → (fault_of bytes ≡ Some fault) ↔ BreaksOff bytes fault

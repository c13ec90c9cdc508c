-- What a file says, and what the reader answers.
use Rattle.std.specs.Prelude.{◌≡◌, ℕ, zero, suc, ◌+◌, ◌*◌, ◌<◌, cond, ◌↔◌, List, [], ◌∷◌, length, take, drop, Some, None, Ok, Err, vec_items, Result, ◌==◌, slice_index}
use Rattle.std.specs.Option.{unwrap_or}
use Rattle.schedule.specs.declared.call.Call.{Call}
use Rattle.schedule.specs.declared.call.Call.TheVariants.{Offer, Deliver, Run, Outlook, Commit}
use Rattle.schedule.specs.declared.file.Fault.{Fault}
use Rattle.schedule.specs.declared.file.Schedule.{Schedule}
use Rattle.schedule.specs.declared.file.ReadError.{ReadError}
use Rattle.schedule.specs.declared.file.ReadError.TheVariants.{Faulty, NoMemory}
use Rattle.schedule.specs.Layout.{header_size, offer_letter, deliver_letter, run_letter, outlook_letter, Follows}
use Rattle.schedule.specs.Faults.{size, fault_of}

-- the number that the bytes spell, the lowest first
abbrev pub number : List ℕ → ℕ
number [] = 0
number (byte ∷ bytes) = byte + 256 * number bytes

-- the call of a letter and the bytes that follow it
abbrev pub call_of : ℕ → List ℕ → Call
call_of letter rest =
    cond (letter == offer_letter) (Offer (number (take 4 rest)) (slice_index rest 4) (slice_index rest 5) (number (take 4 (drop 6 rest)))) (
    cond (letter == deliver_letter) (Deliver (number (take 2 rest))) (
    cond (letter == run_letter) (Run (slice_index rest 0)) (
    cond (letter == outlook_letter) Outlook (Commit (number (take 2 rest))))))

-- the calls up to the end; the bytes to skip are the numbers of the call before
abbrev pub calls_of : (skip : ℕ) → List ℕ → List Call
calls_of skip [] = []
calls_of (suc skip) (number ∷ rest) = calls_of skip rest
calls_of zero (letter ∷ rest) = call_of letter rest ∷ calls_of (unwrap_or (size letter) 0) rest

-- the end time and the calls, or the fault
abbrev pub reading : List ℕ → Result (ℕ × List Call) Fault
reading bytes = elim (fault_of bytes) [ None ↦ Ok (number (take 4 (drop 2 bytes)), calls_of 0 (drop header_size bytes)) | Some fault ↦ Err fault ]

-- the law: a file is read as that which the layout writes it from, and is refused if it is written from nothing
abbrev pub ReadsTheLayout : List ℕ → Type 0
ReadsTheLayout bytes = (end : ℕ) (calls : List Call) → (reading bytes ≡ Ok (end, calls)) ↔ Follows bytes end calls

-- the answer is the file's reading; only for a sound file that has a call can memory be wanting
abbrev pub AnswersTheReading : List ℕ → Result Schedule ReadError → Type 0
AnswersTheReading bytes (Ok s) = reading bytes ≡ Ok (s.end, vec_items s.calls)
AnswersTheReading bytes (Err (Faulty fault)) = reading bytes ≡ Err fault
AnswersTheReading bytes (Err (NoMemory _)) = (fault_of bytes ≡ None) × (header_size < length bytes)

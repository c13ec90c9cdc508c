-- What is packed of a text, and what is said of a text that is not packed.
use Rattle.std.specs.Prelude.{◌≡◌, ℕ, ◌+◌, ◌^◌, ◌<◌, ◌≤◌, ◌⊎◌, List, ◌++◌, length, Ok, Err, Result}
use Rattle.std.specs.List.{flat_map, All}
use Rattle.schedule.specs.declared.call.Call.{Call}
use Rattle.schedule.specs.Layout.{most_bytes, header_size, bytes_of, Within, encode, Follows}
use Rattle.schedule.specs.Reading.{reading}
use Rattle.listing.specs.Listed.{call_line, end_line, listed}
use Rattle.packing.specs.declared.error.Why.{Why}
use Rattle.packing.specs.declared.error.PackError.{PackError}
use Rattle.packing.specs.declared.error.PackError.TheVariants.{BadLine, TooLong, NoMemory}
use Rattle.packing.specs.Wrong.{FirstFault, LineFault}

-- what was read of a line, or what is wrong with it and its number
abbrev pub at_line : {T : Type 0} → ℕ → Result T Why → Result T PackError
at_line line (Ok value) = Ok value
at_line line (Err why) = Err (BadLine line why)

-- the bytes are what the layout writes of an end time and calls, and the text is what is listed of them
pub record Packs (text bytes : List ℕ) : Type 0 where
  pub end : ℕ
  pub calls : List Call
  pub follows : Follows bytes end calls
  pub reads_back : reading bytes ≡ Ok (end, calls)
  pub lists_as_the_text : listed bytes ≡ text

-- the text opens with the lines of an end time and calls, and goes on with the rest
pub record OpensWith (text : List ℕ) (end : ℕ) (calls : List Call) (rest : List ℕ) : Type 0 where
  pub laid : text ≡ (end_line end ++ flat_map call_line calls) ++ rest
  pub end_within : end < 2 ^ 32
  pub within : All Within calls

-- the text is a listing up to the line, which is at fault
pub record BreaksOff (text : List ℕ) (line : ℕ) (why : Why) : Type 0 where
  pub end : ℕ
  pub calls : List Call
  pub rest : List ℕ
  pub before : OpensWith text end calls rest
  pub small : length (encode end calls) ≤ most_bytes
  pub more : 0 < length rest
  pub broken : LineFault rest why
  pub numbered : line ≡ length calls + 2

-- the text opens with a listing of more than a file may hold
pub record GoesPast (text : List ℕ) : Type 0 where
  pub end : ℕ
  pub calls : List Call
  pub rest : List ℕ
  pub before : OpensWith text end calls rest
  pub large : most_bytes < length (encode end calls)

-- why a text is refused; want of memory is told only where all else is well
abbrev pub Refuses : List ℕ → PackError → Type 0
Refuses text (BadLine line why) = ((line ≡ 1) × FirstFault text why) ⊎ BreaksOff text line why
Refuses text TooLong = GoesPast text
Refuses text NoMemory = (bytes : List ℕ) × Packs text bytes

-- the law: a text is refused for one reason
abbrev pub RefusedForOneReason : Type 0
RefusedForOneReason = (text : List ℕ) (a b : PackError) → Refuses text a → Refuses text b → a ≡ b

-- the lines are those of calls, which take so many bytes with the header
pub record LinesFit (lines : List ℕ) (size : ℕ) : Type 0 where
  pub calls : List Call
  pub laid : lines ≡ flat_map call_line calls
  pub within : All Within calls
  pub counted : size ≡ header_size + length (flat_map bytes_of calls)
  pub small : size ≤ most_bytes

-- the calls of the lines up to one at fault, or up to their end, are written behind what was before
pub record WritesTheLines (lines before after : List ℕ) : Type 0 where
  pub calls : List Call
  pub rest : List ℕ
  pub why : Why
  pub laid : lines ≡ flat_map call_line calls ++ rest
  pub within : All Within calls
  pub stopped : LineFault rest why
  pub written : after ≡ before ++ flat_map bytes_of calls

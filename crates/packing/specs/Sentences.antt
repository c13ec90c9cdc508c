-- The sentence of an error.
use Rattle.std.specs.Prelude.{ℕ, List, ◌++◌, codes, decimal}
use Rattle.packing.specs.declared.error.Why.{Why}
use Rattle.packing.specs.declared.error.Why.TheVariants.{NoEndTime, UnknownCall, NoSpace, BadNumber, TooLarge, ExtraText, NoEndOfLine}
use Rattle.packing.specs.declared.error.PackError.{PackError}
use Rattle.packing.specs.declared.error.PackError.TheVariants.{BadLine, TooLong, NoMemory}

abbrev pub why_text : Why → List ℕ
why_text NoEndTime = codes "the end time is expected, as in: end 1000"
why_text UnknownCall = codes "a call is expected: o, d, r, g or c"
why_text NoSpace = codes "one space and a number are expected"
why_text BadNumber = codes "a number is expected, with no zero before it"
why_text TooLarge = codes "the number is too large"
why_text ExtraText = codes "the line should end after its last number"
why_text NoEndOfLine = codes "the line has no end"

abbrev pub error_text : PackError → List ℕ
error_text (BadLine line why) = codes "line " ++ decimal line ++ codes ": " ++ why_text why
error_text TooLong = codes "the schedule is longer than 60000 bytes"
error_text NoMemory = codes "no memory"

-- The layout of a schedule file, as an encoder: numbers, the lowest byte first, then calls, then the file.
use Rattle.std.specs.Prelude.{◌≡◌, ℕ, ◌/◌, ◌%◌, ◌^◌, ◌<◌, ◌≤◌, List, [], ◌∷◌, ◌++◌, length}
use Rattle.std.specs.List.{flat_map, All}
use Rattle.schedule.specs.declared.call.Call.{Call}
use Rattle.schedule.specs.declared.call.Call.TheVariants.{Offer, Deliver, Run, Outlook, Commit}

-- a file is no longer than this
abbrev pub most_bytes : ℕ
most_bytes = 60000

abbrev pub edition_now : ℕ
edition_now = 1

-- the edition and the end time
abbrev pub header_size : ℕ
header_size = 6

-- a call opens with its letter: o
abbrev pub offer_letter : ℕ
offer_letter = 111

-- d
abbrev pub deliver_letter : ℕ
deliver_letter = 100

-- r
abbrev pub run_letter : ℕ
run_letter = 114

-- g
abbrev pub outlook_letter : ℕ
outlook_letter = 103

-- c
abbrev pub commit_letter : ℕ
commit_letter = 99

-- a number of 16 bits
abbrev pub two : ℕ → List ℕ
two n = n % 256 ∷ n / 256 ∷ []

-- a number of 32 bits
abbrev pub four : ℕ → List ℕ
four n = two (n % 65536) ++ two (n / 65536)

abbrev pub bytes_of : Call → List ℕ
bytes_of (Offer time destination kind payload) = offer_letter ∷ four time ++ destination ∷ kind ∷ four payload
bytes_of (Deliver index) = deliver_letter ∷ two index
bytes_of (Run board) = run_letter ∷ board ∷ []
bytes_of Outlook = outlook_letter ∷ []
bytes_of (Commit most) = commit_letter ∷ two most

-- each number fits the bytes that it is given
abbrev pub Within : Call → Type 0
Within (Offer time destination kind payload) = (time < 2 ^ 32) × (destination < 2 ^ 8) × (kind < 2 ^ 8) × (payload < 2 ^ 32)
Within (Deliver index) = index < 2 ^ 16
Within (Run board) = board < 2 ^ 8
Within Outlook = Unit {0}
Within (Commit most) = most < 2 ^ 16

-- the whole file: the edition, the end time, and the calls up to its end
abbrev pub encode : ℕ → List Call → List ℕ
encode end calls = two edition_now ++ four end ++ flat_map bytes_of calls

-- a file that follows the layout
pub record Follows (bytes : List ℕ) (end : ℕ) (calls : List Call) : Type 0 where
  pub laid : bytes ≡ encode end calls
  pub small : length bytes ≤ most_bytes
  pub end_within : end < 2 ^ 32
  pub within : All Within calls

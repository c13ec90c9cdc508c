-- A sound schedule has few calls.
use Rattle.std.proofs.Common.{◌≡◌, ℕ, ◌≤◌, List, [], ◌∷◌, ◌++◌, length, Ok, ap, arith}
use Rattle.std.specs.List.{flat_map}
use Rattle.std.proofs.lemmas.List.{length-append}
use Rattle.schedule.specs.declared.call.Call.{Call}
use Rattle.schedule.specs.declared.call.Call.TheVariants.{Offer, Deliver, Run, Outlook, Commit}
use Rattle.schedule.specs.Layout.{two, four, edition_now, bytes_of}
use Rattle.schedule.specs.Reading.{reading, ReadsTheLayout}

-- a call has its letter
has_letter : (call : Call) → 1 ≤ length (bytes_of call)
has_letter (Offer time destination kind payload) = omega arith
has_letter (Deliver index) = omega arith
has_letter (Run board) = omega arith
has_letter Outlook = omega arith
has_letter (Commit most) = omega arith

calls_long : (calls : List Call) → length calls ≤ length (flat_map bytes_of calls)
calls_long [] = omega arith
calls_long (x ∷ xs) = omega (arith, has_letter x, calls_long xs, length-append (bytes_of x) (flat_map bytes_of xs))

pub few_calls : (bytes : List ℕ) → ReadsTheLayout bytes → (end : ℕ) (calls : List Call) → reading bytes ≡ Ok (end, calls) → length calls ≤ 60000
few_calls bytes law end calls read =
    let sound = (law end calls).0 read in
    omega (arith, sound.small, ap length sound.laid, length-append (two edition_now ++ four end) (flat_map bytes_of calls), calls_long calls)

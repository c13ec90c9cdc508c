-- The offers of a schedule: which are refused, and the stimuli that the others are.
use Rattle.std.specs.Prelude.{ℕ, ◌+◌, cond, List, [], ◌∷◌, ◌++◌, length, Some, None, Option, nat_le, nat_lt}
use Rattle.std.specs.Option.{option_to_list}
use Rattle.bus.specs.Kinds.{outside}
use Rattle.bus.specs.declared.Message.{Message}
use Rattle.schedule.specs.declared.call.Call.{Call}
use Rattle.schedule.specs.declared.call.Call.TheVariants.{Offer, Deliver, Run, Outlook, Commit}
use Rattle.fare_rack.specs.FareRacks.{fare_rules}
use Rattle.oracle.specs.declared.offers.Refusal.{Refusal}
use Rattle.oracle.specs.declared.offers.Refusal.TheVariants.{NoBoard, PastEnd}

abbrev pub refusal_number : Refusal → ℕ
refusal_number NoBoard = 1
refusal_number PastEnd = 2

-- why a call is refused: an offer to an address that no board has, or else one for a time past the end
abbrev pub refusal_of : ℕ → Call → Option Refusal
refusal_of end (Offer time destination kind payload) = cond (nat_le (length fare_rules) destination) (Some NoBoard) (cond (nat_lt end time) (Some PastEnd) None)
refusal_of end (Deliver index) = None
refusal_of end (Run board) = None
refusal_of end Outlook = None
refusal_of end (Commit most) = None

-- the message from outside, with this number, that an accepted offer is
abbrev pub stimulus_of : ℕ → ℕ → Call → Option Message
stimulus_of end number (Offer time destination kind payload) = elim (refusal_of end (Offer time destination kind payload)) [
  | None ↦ Some (record { time = time; source = outside; number = number; destination = destination; kind = kind; payload = payload })
  | Some refusal ↦ None
]
stimulus_of end number (Deliver index) = None
stimulus_of end number (Run board) = None
stimulus_of end number Outlook = None
stimulus_of end number (Commit most) = None

-- the stimuli of the calls, in their order, numbered from n on
abbrev pub stimuli_from : ℕ → ℕ → List Call → List Message
stimuli_from end n [] = []
stimuli_from end n (call ∷ calls) =
    let first = option_to_list (stimulus_of end n call) in
    first ++ stimuli_from end (n + length first) calls

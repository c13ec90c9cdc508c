-- Calls that write their lines into a log.
use Rattle.std.specs.Prelude.{ℕ, min, List, length, Some, None, Option}
use Rattle.rows.specs.Rows.{in_front}
use Rattle.bus.specs.declared.Message.{Message}
use Rattle.addressing.specs.Settings.{Setting}
use Rattle.model.specs.declared.call.Call.{Call}
use Rattle.model.specs.declared.call.Call.TheVariants.{Offer, Deliver, Run, Outlook, Commit}
use Rattle.model.specs.declared.front.Front.{Front}
use Rattle.model.specs.declared.outcome.Outcome.{Outcome}
use Rattle.model.specs.State.{State, Answer}
use Rattle.model.specs.Commit.{commit, lines_of_commit}
use Rattle.model.specs.Perform.{perform, lines_of}
use Rattle.model.specs.Outcomes.{outcome_of}

abbrev pub message_of : Option Front → Option Message
message_of None = None
message_of (Some f) = Some f.message

-- a commit of as many lines as a log holds: the state after it, how many lines they are, and the log with them in front
abbrev pub commit_into : List Message → State → State × ℕ × List Message
commit_into log s =
    let lines = lines_of_commit s (length log) in
    ((commit s (length log)).0, length lines, in_front lines log)

-- a commit writes no more lines than there is memory for
abbrev pub fitted : ℕ → Call → Call
fitted n (Offer t d k p) = Offer t d k p
fitted n (Deliver i) = Deliver i
fitted n (Run k) = Run k
fitted n Outlook = Outlook
fitted n (Commit most) = Commit (min most n)

-- what a call came to: the state after it, its outcome, and the log with its lines in front
abbrev pub put_into : List Message → State × Answer → State × Outcome × List Message
put_into log r = (r.0, outcome_of r.1, in_front (lines_of r.1) log)

abbrev pub perform_into : List Message → Setting → State → Call → State × Outcome × List Message
perform_into log c s call = put_into log (perform c s (fitted (length log) call))

-- What a schedule's call asks of the bench.
use Rattle.std.specs.Prelude.{ℕ, min}
use Rattle.schedule.specs.declared.call.Call.{Call as Written}
use Rattle.schedule.specs.declared.call.Call.TheVariants as written
use Rattle.model.specs.declared.call.Call.{Call}
use Rattle.model.specs.declared.call.Call.TheVariants.{Offer, Deliver, Run, Outlook, Commit}

-- a commit gets at most so many lines
abbrev pub most_lines : ℕ
most_lines = 256

abbrev pub asked : Written → Call
asked (written.Offer time destination kind payload) = Offer time destination kind payload
asked (written.Deliver index) = Deliver index
asked (written.Run board) = Run board
asked written.Outlook = Outlook
asked (written.Commit most) = Commit (min most most_lines)

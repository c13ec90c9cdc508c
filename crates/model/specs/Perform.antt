-- The calls of a running bench, one after the other.
use Rattle.std.specs.Prelude.{ℕ, ◌+◌, List, [], ◌∷◌, ◌++◌, map}
use Rattle.bus.specs.declared.Message.{Message}
use Rattle.addressing.specs.Settings.{Setting}
use Rattle.model.specs.declared.call.Call.{Call}
use Rattle.model.specs.declared.call.Call.TheVariants.{Offer, Deliver, Run, Outlook, Commit}
use Rattle.model.specs.State.{State, Answer, refused, offered, delivered, ran, looked, committed, flat}
use Rattle.model.specs.Outlook.{outlook}
use Rattle.model.specs.Offer.{stimulus, offer}
use Rattle.model.specs.Deliver.{deliver}
use Rattle.model.specs.Run.{run}
use Rattle.model.specs.Commit.{commit}

-- the state after a call, and its answer
abbrev pub perform : Setting → State → Call → State × Answer
perform c s (Offer time destination kind payload) = offer c s time destination kind payload
perform c s (Deliver index) = deliver s index
perform c s (Run board) = run c s board
perform c s Outlook = (s, looked (outlook s))
perform c s (Commit most) = commit s most

-- the state after a list of calls, each on what the earlier ones left
abbrev pub after : Setting → State → List Call → State
after c s [] = s
after c s (x ∷ xs) = after c (perform c s x).0 xs

-- their answers, in call order
abbrev pub answers : Setting → State → List Call → List Answer
answers c s [] = []
answers c s (x ∷ xs) = (perform c s x).1 ∷ answers c (perform c s x).0 xs

-- the lines of an answer
abbrev pub lines_of : Answer → List Message
lines_of (refused e) = []
lines_of (offered n) = []
lines_of (delivered n) = []
lines_of (ran n) = []
lines_of (looked o) = []
lines_of (committed ls) = ls

-- all lines committed, in call order
abbrev pub lines : List Answer → List Message
lines xs = flat (map lines_of xs)

-- how many events an answer tells undone
abbrev pub undone_of : Answer → ℕ
undone_of (refused e) = 0
undone_of (offered n) = 0
undone_of (delivered n) = n
undone_of (ran n) = 0
undone_of (looked o) = 0
undone_of (committed ls) = 0

-- whether an answer is that of an accepted run
abbrev pub runs_of : Answer → ℕ
runs_of (refused e) = 0
runs_of (offered n) = 0
runs_of (delivered n) = 0
runs_of (ran n) = 1
runs_of (looked o) = 0
runs_of (committed ls) = 0

abbrev pub total : (Answer → ℕ) → List Answer → ℕ
total f [] = 0
total f (x ∷ xs) = f x + total f xs

-- the message of an admitted offer
abbrev pub admitted_by : Answer → ℕ → ℕ → ℕ → ℕ → List Message
admitted_by (refused e) t d k p = []
admitted_by (offered n) t d k p = stimulus n t d k p ∷ []
admitted_by (delivered n) t d k p = []
admitted_by (ran n) t d k p = []
admitted_by (looked o) t d k p = []
admitted_by (committed ls) t d k p = []

abbrev pub admitted : Call → Answer → List Message
admitted (Offer t d k p) a = admitted_by a t d k p
admitted (Deliver i) a = []
admitted (Run k) a = []
admitted Outlook a = []
admitted (Commit n) a = []

-- the stimuli that a list of calls admits
abbrev pub stimuli : Setting → State → List Call → List Message
stimuli c s [] = []
stimuli c s (x ∷ xs) = admitted x (perform c s x).1 ++ stimuli c (perform c s x).0 xs

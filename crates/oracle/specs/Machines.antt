-- The one-by-one machine over the rack of the programs, and where it is after the most lines that a run writes.
use Rattle.std.specs.Prelude.{ℕ, List, [], ◌∷◌}
use Rattle.bus.specs.declared.Message.{Message}
use Rattle.bus.specs.declared.Words.{Words}
use Rattle.bus.specs.Reactions.{zeros}
use Rattle.addressing.specs.Settings.{Setting}
use Rattle.sequential.specs.Sequential.{Machine}
use Rattle.sequential.specs.Laws.{after}
use Rattle.sequential.specs.Runs.{setting_of}
use Rattle.fare_rack.specs.FareRacks.{fare_rules}

-- the most lines that a run writes
unfoldable pub longest_log : ℕ
longest_log = 65536

-- the bus of three boards, up to this time
abbrev pub setting : ℕ → Setting
setting end = setting_of fare_rules end

-- each board begins with four zeros
abbrev pub starts : List Words
starts = zeros ∷ zeros ∷ zeros ∷ []

-- with nothing pending a step does nothing: a run that came to its end is there too
abbrev pub machine_on : ℕ → List Message → Machine
machine_on end stimuli = after (setting end) starts stimuli longest_log

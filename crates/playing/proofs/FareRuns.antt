-- The law of runs at the rack of a fare computer, a reader and a ticker.
use Rattle.std.proofs.Common.{◌≡◌, ℕ, zero, suc, ◌<◌, List, [], ◌∷◌, get_or, refl, arith}
use Rattle.bus.specs.Reactions.{zeros}
use Rattle.fare_rack.specs.FareRacks.{rows_of_zeros}
use Rattle.model.specs.Law.{SetUp}
use Rattle.model.proofs.Law.{law}
use Rattle.playing.specs.Runs.{setting, starts, LinesAreTheSequentialLog}

rows_begin : (k : ℕ) → k < 3 → get_or rows_of_zeros k [] ≡ get_or starts k zeros ∷ []
rows_begin zero h = refl
rows_begin (suc zero) h = refl
rows_begin (suc (suc zero)) h = refl
rows_begin (suc (suc (suc k))) h = absurd (omega arith)

set_up : (end : ℕ) → SetUp (setting end) starts rows_of_zeros
set_up end = (refl, refl, rows_begin)

pub lawful_runs : (bytes : List ℕ) → LinesAreTheSequentialLog bytes
lawful_runs bytes end calls is = law (setting end) starts rows_of_zeros (set_up end) _

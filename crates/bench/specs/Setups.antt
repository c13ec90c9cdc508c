-- What a set-up stands for.
use Rattle.std.specs.Prelude.{ℕ, min, cond, List, length, take, Ok, Err, Result, nat_lt}
use Rattle.bus.specs.declared.Words.{Words}
use Rattle.savers.specs.Rows.{Row}
use Rattle.racks.specs.declared.rack.Rack.{Ghosts}
use Rattle.racks.specs.Starts.{with_words}
use Rattle.addressing.specs.Settings.{Setting}
use Rattle.model.specs.declared.refusal.Refusal.{Refusal}
use Rattle.model.specs.declared.refusal.Refusal.TheVariants.{NoBoard}
use Rattle.bench.specs.declared.setup.Setup.{Setup}

-- the setting of the bench to start, the words that its boards start with, and the rows of its rack as they are
pub record Start : Type 0 where
  pub setting : Setting
  pub words : List Words
  pub rows : List Row

-- a set-up, with the rules and the rows of its rack
abbrev pub start_of : {R : Type 0} {rack : Ghosts R} → Setup R rack → Start
start_of {rack = rack} u = record {
  setting = record { rules = rack.rules; end = u.end };
  words = take (min (length rack.rules) 8) u.starts;
  rows = rack.rows u.rack;
}

-- the rows of the bench that a set-up starts: each of the first ones is a start alone, and those behind them stay as they are
abbrev pub first_rows : Start → List Row
first_rows u = with_words u.words u.rows

-- the answer of a call for board k, of so many boards
abbrev pub only_for_a_board : ℕ → ℕ → Result (Unit {0}) Refusal
only_for_a_board boards k = cond (nat_lt k boards) (Ok tt) (Err NoBoard)

-- What a running bench stands for, and what its calls return.
use Rattle.std.specs.Prelude.{ℕ, Ok, Err, Result}
use Rattle.racks.specs.declared.rack.Rack.{Ghosts}
use Rattle.addressing.specs.Settings.{Setting}
use Rattle.model.specs.declared.refusal.Refusal.{Refusal}
use Rattle.model.specs.State.{State, Answer, refused, offered, delivered, ran}
use Rattle.queues.specs.Entries.{boards_in}
use Rattle.queues.specs.Transits.{on_way}
use Rattle.bench.specs.declared.running.Running.{Running}

-- what all its calls share, and what they change
pub record Bench : Type 0 where
  pub setting : Setting
  pub state : State

-- the state of a bench, with the rows of its rack
abbrev pub state_of : {R : Type 0} {rack : Ghosts R} → Running R rack → State
state_of {rack = rack} b = record {
  rows = rack.rows b.rack;
  boards = boards_in b.table;
  transit = on_way b.transit;
  counters = record { offers = b.offers; runs = b.runs; committed = b.committed; undone = b.undone };
  last = b.last;
}

-- the setting of a bench, with the rules of its rack
abbrev pub setting_of : {R : Type 0} {rack : Ghosts R} → Running R rack → Setting
setting_of {rack = rack} b = record { rules = rack.rules; end = b.end }

abbrev pub bench_of : {R : Type 0} {rack : Ghosts R} → Running R rack → Bench
bench_of b = record { setting = setting_of b; state = state_of b }

-- what a call returns, as its answer
abbrev pub offered_or : Result ℕ Refusal → Answer
offered_or (Ok n) = offered n
offered_or (Err e) = refused e

abbrev pub delivered_or : Result ℕ Refusal → Answer
delivered_or (Ok n) = delivered n
delivered_or (Err e) = refused e

abbrev pub ran_or : Result ℕ Refusal → Answer
ran_or (Ok n) = ran n
ran_or (Err e) = refused e

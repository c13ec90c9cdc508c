-- What an arrival does to a board, and what it asks of the bench.
use Rattle.std.specs.Prelude.{ℕ, ◌-◌, Bool, true, false, cond, ◌&&◌, length, drop, nat_le}
use Rattle.model.specs.declared.item.Item.{Item}
use Rattle.model.specs.declared.item.Item.TheVariants.{Plus, Minus}
use Rattle.model.specs.State.{Queues, sends_of, standing_of}
use Rattle.model.specs.Deliver.{has, not_after, room, arrive}
use Rattle.queues.specs.declared.plan.Plan.{Plan}
use Rattle.queues.specs.declared.effect.Effect.{Effect}
use Rattle.queues.specs.declared.effect.Effect.TheVariants.{MeetsEarly, Opens, Withdraws, Undoes, Waits}

abbrev pub effect_of : Item → Queues → Effect
effect_of (Plus m) q = cond (has m q.early) MeetsEarly (Opens (not_after m q.standing))
effect_of (Minus m) q =
    cond (has m q.open_ones) Withdraws
    (cond (has m (standing_of q)) (Undoes (not_after m q.standing - 1)) Waits)

-- how many of so many standing events stay, and whether a place is needed
abbrev pub stay_by : Effect → ℕ → ℕ
stay_by MeetsEarly n = n
stay_by (Opens stay) n = stay
stay_by Withdraws n = n
stay_by (Undoes stay) n = stay
stay_by Waits n = n

abbrev pub needs_by : Effect → Bool
needs_by MeetsEarly = false
needs_by (Opens stay) = true
needs_by Withdraws = false
needs_by (Undoes stay) = false
needs_by Waits = true

-- an arrival needs a place, and there is none
abbrev pub no_place : Item → Queues → Bool
no_place item q = (arrive item q).needs_place && nat_le 32 (room q)

-- what an arrival asks of the bench
abbrev pub plan_of : Item → Queues → Plan
plan_of item q = record {
  stay = (arrive item q).stay;
  full = no_place item q;
  recalled = length (sends_of (drop (arrive item q).stay q.standing));
  undone = length q.standing - (arrive item q).stay;
}

-- the queues after an arrival; where it has no place, nothing changes
abbrev pub arrived : Item → Queues → Queues
arrived item q = cond (no_place item q) q (arrive item q).queues

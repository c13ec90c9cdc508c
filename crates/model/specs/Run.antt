-- Run: a board reacts to its first open message, which stands then.
use Rattle.std.specs.Prelude.{ℕ, cond, List, [], ◌∷◌, ◌++◌, map, length, nat_le, nat_lt}
use Rattle.bus.specs.declared.Message.{Message}
use Rattle.bus.specs.Reactions.{listed}
use Rattle.savers.specs.Rows.{newest}
use Rattle.addressing.specs.Settings.{Setting, boards_of, rule_of, addressed}
use Rattle.model.specs.declared.item.Item.TheVariants.{Plus}
use Rattle.model.specs.declared.refusal.Refusal.TheVariants.{NoBoard, NothingOpen, RunsSpent, TransitFull}
use Rattle.model.specs.State.{Queues, State, Answer, refused, ran, issued, at_board, row_at, with_board, with_transit, with_counters, one_run}

-- the first open message stands, with what it sent
abbrev pub stood : Queues → Message → List Message → List Message → Queues
stood q m rest out = record { standing = q.standing ++ record { message = m; sends = out } ∷ []; open_ones = rest; early = q.early; sent = q.sent }

abbrev pub run_open : Setting → State → ℕ → Message → List Message → State × Answer
run_open c s k m rest =
    let q = at_board s k in
    let r = rule_of c k (newest (row_at s k)) m in
    let out = addressed c k m.time (issued q) (listed r.sends) in (
      with_counters (one_run s.counters)
          (with_transit (s.transit ++ map Plus out)
          (with_board k (stood q m rest out) (row_at s k ++ r.words ∷ []) s)),
      ran (length out),
    )

abbrev pub run_first : Setting → State → ℕ → List Message → State × Answer
run_first c s k [] = (s, refused NothingOpen)
run_first c s k (m ∷ rest) =
    cond (nat_le 1000000000 s.counters.runs) (s, refused RunsSpent)
    (cond (nat_lt 126 (length s.transit)) (s, refused TransitFull) (run_open c s k m rest))

abbrev pub run : Setting → State → ℕ → State × Answer
run c s k = cond (nat_le (boards_of c) k) (s, refused NoBoard) (run_first c s k (at_board s k).open_ones)

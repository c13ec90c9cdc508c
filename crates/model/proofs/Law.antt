-- The law of runs.
use Rattle.std.proofs.Common.{◌≡◌, ℕ, ◌+◌, ◌<◌, List, [], ◌∷◌, map, length, get_or, sym, refl, ap, subst, inl, inr, arith}
use Rattle.std.specs.List.{AllByRecursion}
use Rattle.std.proofs.ByRecursion.{All-append, All-from_get_or, All-weaker}
use Rattle.std.proofs.lemmas.Bool.{cases_lt}
use Rattle.rows.proofs.Sorted.{count_append, count_cons}
use Rattle.bus.specs.Order.{message_before}
use Rattle.bus.specs.Reactions.{zeros}
use Rattle.bus.specs.declared.Message.{Message}
use Rattle.bus.specs.declared.Words.{Words}
use Rattle.savers.specs.Rows.{Row}
use Rattle.sequential.specs.Sequential.{Machine, fresh}
use Rattle.addressing.specs.Settings.{Setting, boards_of}
use Rattle.model.specs.Law.{CommittedLinesAreTheSequentialLog, SetUp, bench, log, machine}
use Rattle.model.specs.Outlook.{open_and_early, outstanding}
use Rattle.model.specs.Perform.{stimuli}
use Rattle.model.specs.State.{Event, Queues, State, at_board, flat, inside, no_queues, row_at, standing, standing_of, started}
use Rattle.model.specs.declared.call.Call.{Call}
use Rattle.model.specs.declared.item.Item.{Item}
use Rattle.model.specs.declared.item.Item.TheVariants.{Minus, Plus}
use Rattle.model.proofs.Counts.{all_flat, how_many, none_empty}
use Rattle.model.proofs.Followed.{follow, steps_follow}
use Rattle.model.proofs.Tied.{After, Chain, Known, Tied, Waits, minuses, pluses}
use Rattle.model.proofs.LineTied.{count_parts}
use Rattle.model.proofs.StartTied.{start_tied}
use Rattle.model.proofs.CallsTied.{AllKept, calls_kept}

-- all that is outstanding is after the lines
tied_later : (c : Setting) (m : Machine) (ls : List Message) (s : State) → Tied c m ls s → AllByRecursion (After ls) (outstanding s)
tied_later c m ls s t = All-append (After ls) (flat (map open_and_early s.boards)) (map inside s.transit)
    (all_flat (After ls) open_and_early s.boards (All-from_get_or (λ (q : Queues). AllByRecursion (After ls) (open_and_early q)) s.boards no_queues each))
    (All-weaker (λ x. Known c s.counters.offers x × After ls x) (After ls) (λ x h. h.1) (map inside s.transit) t.moving)
  where
    later_ones : (k : ℕ) (ms : List Message) → AllByRecursion (Waits c s.counters.offers ls k) ms → AllByRecursion (After ls) ms
    later_ones k ms a = All-weaker (Waits c s.counters.offers ls k) (After ls) (λ x h. h.later) ms a

    each : (k : ℕ) → k < length s.boards → AllByRecursion (After ls) (open_and_early (at_board s k))
    each k h = elim (cases_lt k (boards_of c)) [
      | inl g ↦ All-append (After ls) (at_board s k).open_ones (at_board s k).early
          (later_ones k (at_board s k).open_ones (t.board k g).opens) (later_ones k (at_board s k).early (t.board k g).earlies)
      | inr g ↦ rw (t.idle k g) tt
    ]

-- with nothing outstanding and nothing standing nothing is pending
count_inside : (x : Message) (xs : List Item) → how_many x (map inside xs) ≡ how_many x (pluses xs) + how_many x (minuses xs)
count_inside x [] = refl
count_inside x (Plus m ∷ xs) = omega (arith, count_inside x xs, count_cons message_before x m (map inside xs), count_cons message_before x m (pluses xs))
count_inside x (Minus m ∷ xs) = omega (arith, count_inside x xs, count_cons message_before x m (map inside xs), count_cons message_before x m (minuses xs))

tied_finished : (c : Setting) (m : Machine) (ls : List Message) (s : State) → Tied c m ls s → outstanding s ≡ [] → standing s ≡ [] → m.pending ≡ []
tied_finished c m ls s t o st = none_empty m.pending λ x. omega (
  arith,
  t.balance x,
  ap (how_many x) o,
  ap (how_many x) st,
  count_append message_before x (flat (map open_and_early s.boards)) (map inside s.transit),
  count_inside x s.transit,
  count_parts x (λ (q : Queues). q.open_ones) (λ (q : Queues). q.early) s.boards,
  count_parts x standing_of (λ (q : Queues). q.open_ones) s.boards,
)

chain_first : (c : Setting) (k : ℕ) (w : Words) (n : ℕ) (es : List Event) (row : Row) → Chain c k w n es row → get_or row 0 zeros ≡ w
chain_first c k w n [] row h = rw h
chain_first c k w n (e ∷ es) [] h = absurd h
chain_first c k w n (e ∷ es) (v ∷ row) h = h.0

-- all that the law rests on, at the end of the calls
module _ (c : Setting) (starts : List Words) (rows : List Row) (u : SetUp c starts rows) (calls : List Call) where
  kept : AllKept c starts [] [] (started rows) calls
  kept = calls_kept c starts calls [] [] (started rows) (tt, start_tied c starts rows u)

  machine_is : machine c starts rows calls ≡ follow c (fresh c starts (stimuli c (started rows) calls)) (log c starts rows calls)
  machine_is = steps_follow c (fresh c starts (stimuli c (started rows) calls)) (log c starts rows calls) kept.held.0

  pub tied : Tied c (machine c starts rows calls) (log c starts rows calls) (bench c starts rows calls)
  tied = subst (λ (m : Machine). Tied c m (log c starts rows calls) (bench c starts rows calls)) (sym machine_is) kept.held.1

pub law : CommittedLinesAreTheSequentialLog
law c starts rows u calls =
    let s = bench c starts rows calls in
    let m = machine c starts rows calls in
    let ls = log c starts rows calls in
    let t = tied c starts rows u calls in
    let k = kept c starts rows u calls in
    record {
      committed_lines_are_the_sequential_log = sym t.logged;
      outstanding_comes_after_every_line = tied_later c m ls s t;
      nothing_left_is_nothing_pending = tied_finished c m ls s t;
      runs_are_committed_standing_or_undone = omega (arith, t.runs_are, k.runs_more, k.undone_more);
      counters_tell_runs_lines_and_undone = (omega (arith, k.runs_more), t.committed_are, omega (arith, k.undone_more));
      saved_starts_are_the_machines_words = λ j jb. chain_first c j (get_or m.words j zeros) (get_or m.sent j 0) (at_board s j).standing (row_at s j) (t.board j jb).chain;
      committed_sends_are_the_machines = λ j jb. (t.board j jb).sent_is;
    }

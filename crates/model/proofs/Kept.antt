-- What every call keeps: the order of each board's rows, and the bounds of boards, transit and counters.
use Rattle.std.proofs.Common.{◌≡◌, ℕ, zero, suc, ◌+◌, ◌-◌, ◌*◌, ◌<◌, ◌≤◌, Bool, true, false, cond, ◌&&◌, leb, List, [], ◌∷◌, ◌++◌, map, length, get_or, take, drop, set, sym, refl, ap, ◌∙◌, subst, inl, inr, arith}
use Rattle.std.specs.List.{AllByRecursion}
use Rattle.std.proofs.ByRecursion.{All-drop, All-push, All-take}
use Rattle.std.proofs.lemmas.List.{length-append, length-drop, length-map, length-take}
use Rattle.std.proofs.lemmas.Bool.{cases_Bool, leb-false}
use Rattle.rows.proofs.Sorted.{count_append}
use Rattle.rows.specs.Rows.{without}
use Rattle.bus.specs.Order.{message_before}
use Rattle.bus.specs.Reactions.{listed, Sends}
use Rattle.bus.specs.declared.Message.{Message}
use Rattle.bus.specs.declared.Send.{Send}
use Rattle.bus.specs.declared.up_to_two.UpToTwo.TheVariants.{Nothing, One, Two}
use Rattle.savers.specs.Rows.{Row, newest}
use Rattle.addressing.specs.Settings.{Setting, addressed, boards_of, passes, rule_of}
use Rattle.model.specs.Commit.{commit, lines_of_commit, share, shed, shed_from}
use Rattle.model.specs.Deliver.{arrive, no_message, room}
use Rattle.model.specs.Kept.{ReachedBenchesKeepTheirRowsInOrder, ReachedBenchesStayInBounds}
use Rattle.model.specs.Law.{Reached}
use Rattle.model.specs.Offer.{stimulus}
use Rattle.model.specs.Perform.{perform}
use Rattle.model.specs.Run.{run_open, stood}
use Rattle.model.specs.State.{Event, Queues, State, at_board, inside, issued, no_queues, row_at, sends_of, started}
use Rattle.model.specs.declared.call.Call.{Call}
use Rattle.model.specs.declared.item.Item.{Item}
use Rattle.model.specs.declared.item.Item.TheVariants.{Minus, Plus}
use Rattle.model.proofs.Counts.{how_many}
use Rattle.model.proofs.Sorted.{Sorted, sorted_right, sorted_true}
use Rattle.model.proofs.Tied.{debit}
use Rattle.model.proofs.Arrivals.{Apart, apart_less, arrives, debit_undo, room_is, sends_append, sends_split}
use Rattle.model.proofs.Performed.{delivered_on, offered_on, performed}
use Rattle.model.proofs.RunTied.{debit_same}
use Rattle.model.proofs.LineTied.{place}
use Rattle.model.proofs.StartTied.{empty_queue}
use Rattle.model.proofs.Reach.{reached_all}

-- a board after so many runs of the bench
record KeptBoard (runs : ℕ) (q : Queues) : Type 0 where
  ordered : Sorted (debit q)
  early_ordered : Sorted q.early
  apart : Apart q
  places : room q ≤ 32
  two_sends : AllByRecursion (λ (e : Event). length e.sends ≤ 2) q.standing
  numbers : issued q ≤ 2 * runs

-- ---- one board

-- it has room for what it admits
admits : (b : Bool) (r : ℕ) → (b && leb 32 r) ≡ false → r ≤ 32 → r + cond b 1 0 ≤ 32
admits true r h k = omega (arith, leb-false 32 r h)
admits false r h k = omega arith

sends_lengths : (p : ℕ) (es : List Event) → length (sends_of (take p es)) + length (sends_of (drop p es)) ≡ length (sends_of es)
sends_lengths p es = sym (length-append (sends_of (take p es)) (sends_of (drop p es))) ∙ ap length (sends_split p es)

kept_more : (runs : ℕ) (q : Queues) → KeptBoard runs q → KeptBoard (runs + 1) q
kept_more runs q b = record {
  ordered = b.ordered;
  early_ordered = b.early_ordered;
  apart = b.apart;
  places = b.places;
  two_sends = b.two_sends;
  numbers = omega (arith, b.numbers);
}

kept_arrival : (runs : ℕ) (i : Item) (q : Queues) → KeptBoard runs q → ((arrive i q).needs_place && leb 32 (room q)) ≡ false → KeptBoard runs (arrive i q).queues
kept_arrival runs i q b h =
    let a = arrives i q b.ordered in
    record {
      ordered = a.ordered;
      early_ordered = a.early_ordered b.early_ordered;
      apart = a.apart b.apart;
      places = omega (arith, a.places, admits (arrive i q).needs_place (room q) h b.places);
      two_sends = rw a.standing_is (All-take (λ (e : Event). length e.sends ≤ 2) (arrive i q).stay q.standing b.two_sends);
      numbers = omega (arith, b.numbers, a.sent_same, ap (λ es. length (sends_of es)) a.standing_is, sends_lengths (arrive i q).stay q.standing);
    }

kept_run : (runs : ℕ) (q : Queues) (x : Message) (rest out : List Message) → KeptBoard runs q → q.open_ones ≡ x ∷ rest → length out ≤ 2 → KeptBoard (runs + 1) (stood q x rest out)
kept_run runs q x rest out b e two =
    let row = debit_same q x out rest e in
    record {
      ordered = subst Sorted (sym row) b.ordered;
      early_ordered = b.early_ordered;
      apart = apart_less q (stood q x rest out) (λ y. omega (arith, ap (how_many y) row)) (λ y. omega arith) b.apart;
      places = omega (arith, b.places, room_is q, room_is (stood q x rest out), ap length row);
      two_sends = All-push (λ (e : Event). length e.sends ≤ 2) q.standing (record { message = x; sends = out }) b.two_sends two;
      numbers = omega (
        arith,
        b.numbers,
        two,
        ap length (sends_append q.standing (record { message = x; sends = out } ∷ [])),
        length-append (sends_of q.standing) (out ++ []),
        length-append out [],
      );
    }

kept_shed : (runs n : ℕ) (q : Queues) → KeptBoard runs q → KeptBoard runs (shed n q)
kept_shed runs n q b =
    let gone = map (λ (e : Event). e.message) (take n q.standing) in
    let row = debit_undo n q in
    record {
      ordered = sorted_right gone (debit (shed n q)) (subst Sorted (sym row) b.ordered);
      early_ordered = b.early_ordered;
      apart = apart_less q (shed n q) (λ x. omega (arith, ap (how_many x) row, count_append message_before x gone (debit (shed n q)))) (λ x. omega arith) b.apart;
      places = omega (arith, b.places, length-drop n q.standing);
      two_sends = All-drop (λ (e : Event). length e.sends ≤ 2) n q.standing b.two_sends;
      numbers = omega (arith, b.numbers, sends_lengths n q.standing);
    }

kept_none : (runs : ℕ) → KeptBoard runs no_queues
kept_none runs = record { ordered = tt; early_ordered = tt; apart = λ x. inl refl; places = omega arith; two_sends = tt; numbers = omega arith }

-- ---- all boards

module _ (P : Queues → Type 0) where
  each_set : (qs : List Queues) (k : ℕ) (q : Queues) → P q → ((j : ℕ) → P (get_or qs j no_queues)) → (j : ℕ) → P (get_or (set qs k q) j no_queues)
  each_set [] k q p h j = h j
  each_set (x ∷ xs) zero q p h zero = p
  each_set (x ∷ xs) zero q p h (suc j) = h (suc j)
  each_set (x ∷ xs) (suc k) q p h zero = h 0
  each_set (x ∷ xs) (suc k) q p h (suc j) = each_set xs k q p (λ i. h (suc i)) j

  each_shed : ((n : ℕ) (q : Queues) → P q → P (shed n q)) → (i : ℕ) (ls : List Message) (qs : List Queues) → ((j : ℕ) → P (get_or qs j no_queues)) → (j : ℕ) → P (get_or (shed_from i ls qs) j no_queues)
  each_shed f i ls [] h j = h j
  each_shed f i ls (q ∷ qs) h zero = f (share i ls) q (h 0)
  each_shed f i ls (q ∷ qs) h (suc j) = each_shed f (i + 1) ls qs (λ k. h (suc k)) j

-- ---- the bench

record Kept (s : State) : Type 0 where
  board : (k : ℕ) → KeptBoard s.counters.runs (at_board s k)
  travelling : length s.transit ≤ 128
  runs : s.counters.runs ≤ 1000000000
  offers : s.counters.offers ≤ 65536

two_listed : (x : Sends) → length (listed x) ≤ 2
two_listed Nothing = omega arith
two_listed (One s) = omega arith
two_listed (Two s t) = omega arith

addressed_fewer : (c : Setting) (k t n : ℕ) (xs : List Send) → length (addressed c k t n xs) ≤ length xs
addressed_fewer c k t n [] = omega arith
addressed_fewer c k t n (x ∷ xs) = elim (cases_Bool (passes (boards_of c) c.end t x)) [
  | inl e ↦ rw e (omega (arith, addressed_fewer c k t (n + 1) xs))
  | inr e ↦ rw e (omega (arith, addressed_fewer c k t n xs))
]

module _ (c : Setting) (s : State) (h : Kept s) where
  kept_offer : (x : Message) → s.counters.offers < 65536 → length s.transit < 128 → Kept (offered_on s x)
  kept_offer x left place = record {
    board = h.board;
    travelling = omega (arith, length-append s.transit (Plus x ∷ []));
    runs = h.runs;
    offers = omega arith;
  }

  kept_deliver : (i : ℕ) → i < length s.transit →
      let item = get_or s.transit i (Plus no_message) in
      let q = at_board s (inside item).destination in
      let a = arrive item q in
      (a.needs_place && leb 32 (room q)) ≡ false → length s.transit - 1 + length (sends_of (drop a.stay q.standing)) ≤ 128 → Kept (delivered_on s i item)
  kept_deliver i ib place places =
      let item = get_or s.transit i (Plus no_message) in
      let k = (inside item).destination in
      let q = at_board s k in
      let back = sends_of (drop (arrive item q).stay q.standing) in
      record {
        board = each_set (KeptBoard s.counters.runs) s.boards k (arrive item q).queues (kept_arrival s.counters.runs item q (h.board k) place) h.board;
        travelling = omega (
          arith,
          places,
          length-append (without i s.transit) (map Minus back),
          length-map back Minus,
          length-append (take i s.transit) (drop (i + 1) s.transit),
          length-take i s.transit,
          length-drop (i + 1) s.transit,
        );
        runs = h.runs;
        offers = h.offers;
      }

  kept_react : (k : ℕ) (m : Message) (rest : List Message) → (at_board s k).open_ones ≡ m ∷ rest → s.counters.runs < 1000000000 → length s.transit ≤ 126 → Kept (run_open c s k m rest).0
  kept_react k m rest e left places =
      let q = at_board s k in
      let sends = listed (rule_of c k (newest (row_at s k)) m).sends in
      let out = addressed c k m.time (issued q) sends in
      let two : length out ≤ 2 = omega (arith, addressed_fewer c k m.time (issued q) sends, two_listed (rule_of c k (newest (row_at s k)) m).sends) in
      record {
        board = each_set (KeptBoard (s.counters.runs + 1)) s.boards k (stood q m rest out) (kept_run s.counters.runs q m rest out (h.board k) e two)
            (λ j. kept_more s.counters.runs (at_board s j) (h.board j));
        travelling = omega (arith, two, length-append s.transit (map Plus out), length-map out Plus);
        runs = omega arith;
        offers = h.offers;
      }

  kept_commit : (most : ℕ) → Kept (commit s most).0
  kept_commit most = record {
    board = each_shed (KeptBoard s.counters.runs) (kept_shed s.counters.runs) 0 (lines_of_commit s most) s.boards h.board;
    travelling = h.travelling;
    runs = h.runs;
    offers = h.offers;
  }

  kept_call : (call : Call) → Kept (perform c s call).0
  kept_call = performed c s (λ call r. Kept r.0) (record {
    refuses = λ call e. h;
    offers = λ t d k p to due left place. kept_offer (stimulus s.counters.offers t d k p) left place;
    delivers = kept_deliver;
    runs = λ k kb. kept_react k;
    looks = h;
    commits = kept_commit;
  })

kept : (c : Setting) (s : State) → Reached c s → Kept s
kept c = reached_all c Kept start (λ s r h. kept_call c s h)
  where
    start : (rows : List Row) → Kept (started rows)
    start rows = record { board = λ k. rw (empty_queue k) (kept_none 0); travelling = omega arith; runs = omega arith; offers = omega arith }

pub rows_in_order : ReachedBenchesKeepTheirRowsInOrder
rows_in_order c s r k =
    let b = (kept c s r).board k in
    record {
      in_row_is_sorted = sorted_true (debit (at_board s k)) b.ordered;
      early_ones_are_sorted = sorted_true (at_board s k).early b.early_ordered;
      no_message_is_in_both = b.apart;
    }

pub in_bounds : ReachedBenchesStayInBounds
in_bounds c s r =
    let h = kept c s r in
    record {
      a_board_holds_32_at_most = λ k. (h.board k).places;
      transit_holds_128_at_most = h.travelling;
      an_event_sends_two_at_most = λ k. (h.board k).two_sends;
      a_board_issues_two_a_run_at_most = λ k. (h.board k).numbers;
      runs_are_a_billion_at_most = h.runs;
      offers_are_65536_at_most = h.offers;
    }

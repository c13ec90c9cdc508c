-- A delivery keeps bench and machine tied.
use Rattle.std.proofs.Common.{◌≡◌, ℕ, zero, suc, ◌+◌, ◌-◌, ◌<◌, true, false, List, [], ◌∷◌, ◌++◌, map, length, get_or, take, drop, refl, ap, ◌∙◌, add-one, arith}
use Rattle.std.specs.List.{AllByRecursion}
use Rattle.std.proofs.ByRecursion.{All-append, All-drop, All-get_or, All-map, All-take, All-weaker}
use Rattle.std.proofs.lemmas.List.{length-map, length-take, map-append}
use Rattle.rows.proofs.Sorted.{count_append}
use Rattle.rows.specs.Rows.{without}
use Rattle.bus.specs.Order.{message_before}
use Rattle.bus.specs.Reactions.{zeros}
use Rattle.bus.specs.declared.Message.{Message}
use Rattle.bus.specs.declared.Words.{Words}
use Rattle.savers.specs.Rows.{Row}
use Rattle.sequential.specs.Sequential.{Machine}
use Rattle.addressing.specs.Settings.{Setting}
use Rattle.model.specs.Deliver.{Arrival, arrive, no_message}
use Rattle.model.specs.State.{Event, Queues, State, at_board, flat, inside, row_at, sends_of, standing_of}
use Rattle.model.specs.declared.item.Item.{Item}
use Rattle.model.specs.declared.item.Item.TheVariants.{Minus, Plus}
use Rattle.model.proofs.Orders.{before_upto}
use Rattle.model.proofs.Counts.{all_flat, how_many}
use Rattle.model.proofs.Tied.{After, Board, Known, Sent, Stands, Tied, Waits, change, minus_in, plus_in, sent_after}
use Rattle.model.proofs.Transits.{count_both, each_in, inside_made, none_in}
use Rattle.model.proofs.Arrivals.{Arrives, all_unmap, arrives}
use Rattle.model.proofs.Chains.{chain_take}
use Rattle.model.proofs.Performed.{delivered_on}

-- what is left in transit
count_left : (x : Message) (f : Item → List Message) (i : ℕ) (d : Item) (xs : List Item) → i < length xs →
    how_many x (flat (map f (without i xs))) + how_many x (f (get_or xs i d)) ≡ how_many x (flat (map f xs))
count_left x f i d [] h = absurd (omega arith)
count_left x f zero d (y ∷ ys) h = omega (arith, count_append message_before x (f y) (flat (map f ys)))
count_left x f (suc i) d (y ∷ ys) h =
    let more : suc i + 1 ≡ suc (i + 1) = omega arith in
    rw more (omega (arith, count_left x f i d ys (omega arith), count_append message_before x (f y) (flat (map f (without i ys))), count_append message_before x (f y) (flat (map f ys))))

all_left_out : {A : Type 0} (P : A → Type 0) (i : ℕ) (xs : List A) → AllByRecursion P xs → AllByRecursion P (without i xs)
all_left_out P i xs h = All-append P (take i xs) (drop (i + 1) xs) (All-take P i xs h) (All-drop P (i + 1) xs h)

all_and : {A : Type 0} (P Q : A → Type 0) (xs : List A) → AllByRecursion P xs → AllByRecursion Q xs → AllByRecursion (λ x. P x × Q x) xs
all_and P Q [] h k = tt
all_and P Q (x ∷ xs) h k = ((h.0, k.0), all_and P Q xs h.1 k.1)

-- the board after the arrival
module _ (c : Setting) (offers : ℕ) (ls : List Message) (k : ℕ) (w : Words) (n : ℕ) (q : Queues) (row : Row) (b : Board c offers ls k w n q row)
    (i : Item) (waits : Waits c offers ls k (inside i)) where
  abbrev a : Arrival
  a = arrive i q

  arrived : Arrives i q a
  arrived = arrives i q b.ordered

  abbrev undone : List Event
  undone = drop a.stay q.standing

  waits_again : (e : Event) → Stands c offers ls k e × (message_before e.message (inside i) ≡ false) → Waits c offers ls k e.message
  waits_again e h = record {
    known = h.0.known;
    home = h.0.home;
    later = All-weaker (λ l. message_before l (inside i) ≡ true) (λ l. message_before l e.message ≡ true) (λ l g. before_upto l (inside i) e.message g h.1) ls waits.later;
  }

  undone_are : AllByRecursion (λ e. Stands c offers ls k e × (message_before e.message (inside i) ≡ false)) undone
  undone_are = all_and (Stands c offers ls k) (λ e. message_before e.message (inside i) ≡ false) undone (All-drop (Stands c offers ls k) a.stay q.standing b.stands) arrived.undone_after

  back_moving : AllByRecursion (λ y. Known c offers y × After ls y) (sends_of undone)
  back_moving = all_flat (λ y. Known c offers y × After ls y) (λ (e : Event). e.sends) undone
      (All-weaker (λ e. Stands c offers ls k e × (message_before e.message (inside i) ≡ false)) (λ e. AllByRecursion (λ y. Known c offers y × After ls y) e.sends)
      (λ e h. All-weaker (Sent c offers ls e.message) (λ y. Known c offers y × After ls y)
      (λ y g. (g.1, sent_after ls e.message y g.0 (waits_again e h).later)) e.sends h.0.sent_later)
      undone undone_are)

  arrived_board : Board c offers ls k w n a.queues (take (a.stay + 1) row)
  arrived_board = record {
    sent_is = arrived.sent_same ∙ b.sent_is;
    chain = rw (arrived.standing_is, add-one) (chain_take c k w n a.stay q.standing row b.chain);
    ordered = arrived.ordered;
    stands = rw arrived.standing_is (All-take (Stands c offers ls k) a.stay q.standing b.stands);
    opens = arrived.opens (Waits c offers ls k) b.opens waits
        (All-map (Waits c offers ls k) (λ (e : Event). e.message) undone
        (All-weaker (λ e. Stands c offers ls k e × (message_before e.message (inside i) ≡ false)) (λ e. Waits c offers ls k e.message) waits_again undone undone_are));
    earlies = arrived.earlies (Waits c offers ls k) b.earlies waits;
  }

  fewer : length (standing_of a.queues) + (length q.standing - a.stay) ≡ length (standing_of q)
  fewer = omega (
    arith,
    length-map q.standing (λ (e : Event). e.message),
    length-map a.queues.standing (λ (e : Event). e.message),
    ap length arrived.standing_is,
    length-take a.stay q.standing,
    arrived.stay_within,
  )

-- in the bench
pub deliver_tied : (c : Setting) (m : Machine) (ls : List Message) (s : State) → Tied c m ls s → (i : ℕ) → i < length s.transit →
    Tied c m ls (delivered_on s i (get_or s.transit i (Plus no_message)))
deliver_tied c m ls s t i ib =
    let item = get_or s.transit i (Plus no_message) in
    let mv : Known c s.counters.offers (inside item) × After ls (inside item) =
    All-get_or (λ x. Known c s.counters.offers (inside x) × After ls (inside x)) s.transit i (Plus no_message) ib
    (all_unmap (λ x. Known c s.counters.offers x × After ls x) inside s.transit t.moving) in
    let k = (inside item).destination in
    let q = at_board s k in
    let row = row_at s k in
    let w = get_or m.words k zeros in
    let n = get_or m.sent k 0 in
    let b = t.board k mv.0.0 in
    let waits : Waits c s.counters.offers ls k (inside item) = record { known = mv.0; home = refl; later = mv.1 } in
    let back = sends_of (drop (arrive item q).stay q.standing) in
    change c m ls s t k mv.0.0 (arrive item q).queues (take ((arrive item q).stay + 1) row) (without i s.transit ++ map Minus back)
    s.counters.runs (s.counters.undone + (length q.standing - (arrive item q).stay))
    (arrived_board c s.counters.offers ls k w n q row b item waits)
    (rw (map-append inside (without i s.transit) (map Minus back), inside_made Minus (λ x. refl) back)
    (All-append (λ y. Known c s.counters.offers y × After ls y) (map inside (without i s.transit)) back
    (All-map (λ y. Known c s.counters.offers y × After ls y) inside (without i s.transit)
    (all_left_out (λ x. Known c s.counters.offers (inside x) × After ls (inside x)) i s.transit
    (all_unmap (λ x. Known c s.counters.offers x × After ls x) inside s.transit t.moving)))
    (back_moving c s.counters.offers ls k w n q row b item waits)))
    (λ y. omega (
      arith,
      (arrived c s.counters.offers ls k w n q row b item waits).counts y,
      count_both y plus_in (without i s.transit) (map Minus back),
      count_both y minus_in (without i s.transit) (map Minus back),
      ap (how_many y) (each_in minus_in Minus (λ x. refl) back),
      ap (how_many y) (none_in plus_in Minus (λ x. refl) back),
      count_left y plus_in i (Plus no_message) s.transit ib,
      count_left y minus_in i (Plus no_message) s.transit ib,
    ))
    (omega (arith, fewer c s.counters.offers ls k w n q row b item waits))

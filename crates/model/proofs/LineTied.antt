-- The least standing message, if it is before all that is outstanding, is what the machine takes next; and to commit it keeps bench and machine tied.
use Rattle.std.proofs.Common.{◌≡◌, ℕ, zero, suc, ◌+◌, ◌<◌, ◌≤◌, true, false, List, [], ◌∷◌, ◌++◌, map, length, get_or, drop, sym, refl, ap, ◌∙◌, subst, inl, inr, arith}
use Rattle.std.specs.List.{AllByRecursion}
use Rattle.std.proofs.ByRecursion.{All-append, All-from_get_or, All-map, All-weaker}
use Rattle.std.proofs.lemmas.List.{append-nil, get_or-set_other, get_or-set_same, length-append, length-set}
use Rattle.std.proofs.lemmas.Bool.{cases_Bool, cases_lt, true≢false}
use Rattle.rows.proofs.Sorted.{count_append, count_cons}
use Rattle.rows.specs.Order.{same}
use Rattle.bus.specs.Order.{message_before}
use Rattle.bus.specs.Reactions.{listed, zeros}
use Rattle.bus.specs.declared.Message.{Message}
use Rattle.bus.specs.declared.Words.{Words}
use Rattle.savers.specs.Rows.{Row}
use Rattle.sequential.specs.Sequential.{Machine, advance, reaction, sending}
use Rattle.addressing.specs.Settings.{Setting, addressed, boards_of, rule_of}
use Rattle.model.specs.Commit.{shed}
use Rattle.model.specs.Offer.{line_time}
use Rattle.model.specs.Outlook.{open_and_early, outstanding}
use Rattle.model.specs.State.{Event, Queues, State, at_board, flat, inside, no_queues, row_at, sends_of, standing, standing_of}
use Rattle.model.specs.declared.item.Item.{Item}
use Rattle.model.specs.declared.item.Item.TheVariants.{Minus, Plus}
use Rattle.model.proofs.Orders.{comes_after, decided, irreflexive, is_same, later, time_upto, upto_before}
use Rattle.model.proofs.Counts.{Lowest, all_flat, all_left, all_of, all_right, how_many, least_upto, measure_set, none_of, one}
use Rattle.model.proofs.Sorted.{Sorted, sorted_left}
use Rattle.model.proofs.Followed.{count_advance}
use Rattle.model.proofs.Tied.{After, Board, Known, Sent, Stands, Tied, Upto, Waits, at_set, credit, debit, minus_in, minuses, plus_in, pluses}
use Rattle.model.proofs.Arrivals.{all_unmap, messages}
use Rattle.model.proofs.LineByLine.{first_on}

-- lists of lists
all_part : {A B : Type 0} (P : A → Type 0) (f : B → List A) (qs : List B) (j : ℕ) (d : B) → j < length qs → AllByRecursion P (flat (map f qs)) → AllByRecursion P (f (get_or qs j d))
all_part P f [] j d h a = absurd (omega arith)
all_part P f (q ∷ qs) zero d h a = all_left P (f q) (flat (map f qs)) a
all_part P f (q ∷ qs) (suc j) d h a = all_part P f qs j d (omega arith) (all_right P (f q) (flat (map f qs)) a)

part_with : {B : Type 0} (x : Message) (f : B → List Message) (qs : List B) (d : B) → 1 ≤ how_many x (flat (map f qs)) →
    (j : ℕ) × (j < length qs) × (1 ≤ how_many x (f (get_or qs j d)))
part_with x f [] d h = absurd (omega arith)
part_with x f (q ∷ qs) d h = elim (cases_lt 0 (how_many x (f q))) [
  | inl l ↦ (0, omega arith, omega arith)
  | inr l ↦
      let r = part_with x f qs d (omega (arith, h, count_append message_before x (f q) (flat (map f qs)))) in
      (suc r.0, omega (arith, r.1), r.2)
]

pub count_parts : {B : Type 0} (x : Message) (f g : B → List Message) (qs : List B) →
    how_many x (flat (map (λ q. f q ++ g q) qs)) ≡ how_many x (flat (map f qs)) + how_many x (flat (map g qs))
count_parts x f g [] = refl
count_parts x f g (q ∷ qs) = omega (
  arith,
  count_parts x f g qs,
  count_append message_before x (f q ++ g q) (flat (map (λ q. f q ++ g q) qs)),
  count_append message_before x (f q) (g q),
  count_append message_before x (f q) (flat (map f qs)),
  count_append message_before x (g q) (flat (map g qs)),
)

all_signed : (P : Message → Type 0) (sign : Item → List Message) → ((i : Item) → P (inside i) → AllByRecursion P (sign i)) → (xs : List Item) → AllByRecursion P (map inside xs) → AllByRecursion P (flat (map sign xs))
all_signed P sign f xs h = all_flat P sign xs (All-weaker (λ i. P (inside i)) (λ i. AllByRecursion P (sign i)) f xs (all_unmap P inside xs h))

in_plus : (P : Message → Type 0) (i : Item) → P (inside i) → AllByRecursion P (plus_in i)
in_plus P (Plus m) p = (p, tt)
in_plus P (Minus m) p = tt

in_minus : (P : Message → Type 0) (i : Item) → P (inside i) → AllByRecursion P (minus_in i)
in_minus P (Plus m) p = tt
in_minus P (Minus m) p = (p, tt)

-- x, which l is not before, stands in no list whose elements l is before
none_later : (l x : Message) (xs : List Message) → AllByRecursion (λ y. message_before l y ≡ true) xs → message_before l x ≡ false → how_many x xs ≡ 0
none_later l x xs a h = none_of x xs (All-weaker (λ y. message_before l y ≡ true) (λ y. same message_before x y ≡ false) differ xs a)
  where
    differ : (y : Message) → message_before l y ≡ true → same message_before x y ≡ false
    differ y k = elim (cases_Bool (same message_before x y)) [
      | inl e ↦ absurd (true≢false (sym k ∙ subst (λ (z : Message). message_before l z ≡ false) (is_same x y e) h))
      | inr e ↦ e
    ]

-- the least that stands at a sorted board is the first
pub first_stands : (l : Message) (es : List Event) → Sorted (messages es) → 1 ≤ how_many l (messages es) → AllByRecursion (λ y. message_before y l ≡ false) (messages es) →
    (e : Event) × (rest : List Event) × (es ≡ e ∷ rest) × (e.message ≡ l)
first_stands l [] o h u = absurd (omega arith)
first_stands l (e ∷ es) o h u =
    (e, es, refl, decided e.message l u.0 (all_of (λ y. message_before y e.message ≡ false) (messages (e ∷ es)) l (irreflexive e.message, o.0) h))

-- a line more
module _ (c : Setting) (offers : ℕ) (ls : List Message) (l : Message) (k : ℕ) where
  after_push : (m : Message) → After ls m → message_before l m ≡ true → After (ls ++ (l ∷ [])) m
  after_push m a h = All-append (λ l. message_before l m ≡ true) ls (l ∷ []) a (h, tt)

  stands_line : (es : List Event) → AllByRecursion (Stands c offers ls k) es → AllByRecursion (λ y. message_before y l ≡ false) (messages es) → AllByRecursion (Stands c offers (ls ++ (l ∷ [])) k) es
  stands_line [] a u = tt
  stands_line (e ∷ es) a u = (
    record { known = a.0.known; home = a.0.home; kept = All-append (λ l. message_before e.message l ≡ false) ls (l ∷ []) a.0.kept (u.0, tt); sent_later = a.0.sent_later },
    stands_line es a.1 u.1,
  )

  waits_line : (ms : List Message) → AllByRecursion (Waits c offers ls k) ms → AllByRecursion (λ y. message_before l y ≡ true) ms → AllByRecursion (Waits c offers (ls ++ (l ∷ [])) k) ms
  waits_line [] a u = tt
  waits_line (m ∷ ms) a u = (record { known = a.0.known; home = a.0.home; later = after_push m a.0.later u.0 }, waits_line ms a.1 u.1)

  board_line : (w : Words) (n : ℕ) (q : Queues) (row : Row) → Board c offers ls k w n q row →
      AllByRecursion (λ y. message_before y l ≡ false) (standing_of q) → AllByRecursion (λ y. message_before l y ≡ true) (q.open_ones ++ q.early) → Board c offers (ls ++ (l ∷ [])) k w n q row
  board_line w n q row b u v = record {
    sent_is = b.sent_is;
    chain = b.chain;
    ordered = b.ordered;
    stands = stands_line q.standing b.stands u;
    opens = waits_line q.open_ones b.opens (all_left (λ y. message_before l y ≡ true) q.open_ones q.early v);
    earlies = waits_line q.early b.earlies (all_right (λ y. message_before l y ≡ true) q.open_ones q.early v);
  }

-- a board without its first event
abbrev with_first : Event → List Event → Queues → Queues
with_first e es q = record { standing = e ∷ es; open_ones = q.open_ones; early = q.early; sent = q.sent }

record ShedOne (c : Setting) (offers : ℕ) (ls : List Message) (k : ℕ) (w : Words) (n : ℕ) (q : Queues) (row : Row) (l : Message) : Type 0 where
  board : Board c offers ls k (rule_of c k w l).words (n + length (addressed c k l.time n (listed (rule_of c k w l).sends))) (shed 1 q) (drop 1 row)
  credit_less : (x : Message) → how_many x (credit q) ≡ how_many x (addressed c k l.time n (listed (rule_of c k w l).sends)) + how_many x (credit (shed 1 q))
  debit_less : (x : Message) → how_many x (debit q) ≡ one x l + how_many x (debit (shed 1 q))
  standing_less : (x : Message) → how_many x (standing_of q) ≡ one x l + how_many x (standing_of (shed 1 q))
  fewer : length (standing_of q) ≡ length (standing_of (shed 1 q)) + 1
  known : Known c offers l
  kept : Upto ls l

module _ (c : Setting) (offers : ℕ) (ls : List Message) (k : ℕ) (w : Words) (n : ℕ) where
  shed_first : (q : Queues) (row : Row) (e : Event) (es : List Event) → Board c offers ls k w n (with_first e es q) row →
      ShedOne c offers ls k w n (with_first e es q) row e.message
  shed_first q [] e es b = absurd b.chain
  shed_first q (v ∷ row) e es b = record {
    board = record {
      sent_is = omega (arith, b.sent_is, ap length (append-nil e.sends), ap length b.chain.1);
      chain = rw (← b.chain.1) b.chain.2;
      ordered = b.ordered.1;
      stands = b.stands.1;
      opens = b.opens;
      earlies = b.earlies;
    };
    credit_less = λ x. omega (
      arith,
      ap (how_many x) b.chain.1,
      count_append message_before x (e.sends ++ sends_of es) q.early,
      count_append message_before x e.sends (sends_of es),
      count_append message_before x (sends_of es) q.early,
    );
    debit_less = λ x. count_cons message_before x e.message (messages es ++ q.open_ones);
    standing_less = λ x. count_cons message_before x e.message (messages es);
    fewer = omega arith;
    known = b.stands.0.known;
    kept = b.stands.0.kept;
  }

  shed_least : (q : Queues) (row : Row) (l : Message) → Board c offers ls k w n q row → 1 ≤ how_many l (standing_of q) → AllByRecursion (λ y. message_before y l ≡ false) (standing_of q) →
      ShedOne c offers ls k w n q row l
  shed_least q row l b h u =
      let f = first_stands l q.standing (sorted_left (standing_of q) q.open_ones b.ordered) h u in
      let q-is : q ≡ with_first f.0 f.1 q = λ i. record { standing = f.2 i; open_ones = q.open_ones; early = q.early; sent = q.sent } in
      subst (λ (x : Queues). ShedOne c offers ls k w n x row l) (sym q-is)
      (subst (λ (y : Message). ShedOne c offers ls k w n (with_first f.0 f.1 q) row y) f.3
      (shed_first q row f.0 f.1 (subst (λ (x : Queues). Board c offers ls k w n x row) q-is b)))

module _ (c : Setting) (m : Machine) (ls : List Message) (s : State) (t : Tied c m ls s) (l : Message)
    (low : Lowest l (standing s)) (final : AllByRecursion (λ y. message_before l y ≡ true) (outstanding s)) where
  abbrev queue : ℕ → Queues
  queue j = at_board s j

  in_eight : (j : ℕ) → j < boards_of c → j < length s.boards
  in_eight j h = omega (arith, t.eight)

  -- l is before all that is open, early or in transit, and nothing standing is before l
  waiting : (j : ℕ) → j < boards_of c → AllByRecursion (λ y. message_before l y ≡ true) ((queue j).open_ones ++ (queue j).early)
  waiting j h = all_part (λ y. message_before l y ≡ true) open_and_early s.boards j no_queues (in_eight j h)
      (all_left (λ y. message_before l y ≡ true) (flat (map open_and_early s.boards)) (map inside s.transit) final)

  travelling : AllByRecursion (λ y. message_before l y ≡ true) (map inside s.transit)
  travelling = all_right (λ y. message_before l y ≡ true) (flat (map open_and_early s.boards)) (map inside s.transit) final

  pub standing_upto : (j : ℕ) → j < boards_of c → AllByRecursion (λ y. message_before y l ≡ false) (standing_of (queue j))
  standing_upto j h = all_part (λ y. message_before y l ≡ false) standing_of s.boards j no_queues (in_eight j h) (least_upto (standing s) l low)

  -- what holds at the boards of the rack and of nothing holds at all eight
  at_all : (f : Queues → List Message) → f no_queues ≡ [] → ((j : ℕ) → j < boards_of c → AllByRecursion (λ y. message_before l y ≡ true) (f (queue j))) →
      AllByRecursion (λ y. message_before l y ≡ true) (flat (map f s.boards))
  at_all f e h = all_flat (λ y. message_before l y ≡ true) f s.boards (All-from_get_or (λ q. AllByRecursion (λ y. message_before l y ≡ true) (f q)) s.boards no_queues each)
    where
      each : (j : ℕ) → j < length s.boards → AllByRecursion (λ y. message_before l y ≡ true) (f (queue j))
      each j k = elim (cases_lt j (boards_of c)) [
        | inl g ↦ h j g
        | inr g ↦ rw (t.idle j g, e) tt
      ]

  -- nothing that stands sent l, or anything before it
  sent_later_than : (j : ℕ) → j < boards_of c → AllByRecursion (λ y. message_before l y ≡ true) (credit (queue j))
  sent_later_than j h = All-append (λ y. message_before l y ≡ true) (sends_of (queue j).standing) (queue j).early
      (all_flat (λ y. message_before l y ≡ true) (λ (e : Event). e.sends) (queue j).standing
      (sends_all (queue j).standing (t.board j h).stands (standing_upto j h)))
      (all_right (λ y. message_before l y ≡ true) (queue j).open_ones (queue j).early (waiting j h))
    where
      sends_all : (es : List Event) → AllByRecursion (Stands c s.counters.offers ls j) es → AllByRecursion (λ y. message_before y l ≡ false) (messages es) → AllByRecursion (λ (e : Event). AllByRecursion (λ y. message_before l y ≡ true) e.sends) es
      sends_all [] a u = tt
      sends_all (e ∷ es) a u = (
        All-weaker (Sent c s.counters.offers ls e.message) (λ y. message_before l y ≡ true) (λ y g. upto_before l e.message y u.0 (later e.message y g.0)) e.sends a.0.sent_later,
        sends_all es a.1 u.1,
      )

  pending_stands : (x : Message) → message_before l x ≡ false → how_many x m.pending ≡ how_many x (standing s)
  pending_stands x h = omega (
    arith,
    t.balance x,
    none_later l x (flat (map credit s.boards)) (at_all credit refl sent_later_than) h,
    none_later l x (flat (map (λ (q : Queues). q.open_ones) s.boards))
        (at_all (λ (q : Queues). q.open_ones) refl (λ j k. all_left (λ y. message_before l y ≡ true) (queue j).open_ones (queue j).early (waiting j k))) h,
    none_later l x (pluses s.transit) (all_signed (λ y. message_before l y ≡ true) plus_in (in_plus (λ y. message_before l y ≡ true)) s.transit travelling) h,
    none_later l x (minuses s.transit) (all_signed (λ y. message_before l y ≡ true) minus_in (in_minus (λ y. message_before l y ≡ true)) s.transit travelling) h,
    count_parts x standing_of (λ (q : Queues). q.open_ones) s.boards,
  )

  pub least_pending : Lowest l m.pending
  least_pending = record {
    there = omega (arith, low.there, pending_stands l (irreflexive l));
    first = λ y h. pending_stands y (comes_after y l h) ∙ low.first y h;
  }

  -- l is the first that stands at its board
  pub place : (j : ℕ) × (j < length s.boards) × (1 ≤ how_many l (standing_of (queue j)))
  place = part_with l standing_of s.boards no_queues low.there

  in_rack : place.0 < boards_of c
  in_rack = elim (cases_lt place.0 (boards_of c)) [
    | inl h ↦ h
    | inr h ↦ absurd (omega (arith, place.2, ap (λ q. how_many l (standing_of q)) (t.idle place.0 h)))
  ]

  pub home : l.destination ≡ place.0
  home = all_of (λ y. y.destination ≡ place.0) (standing_of (queue place.0)) l
      (All-map (λ y. y.destination ≡ place.0) (λ (e : Event). e.message) (queue place.0).standing
      (All-weaker (Stands c s.counters.offers ls place.0) (λ e. e.message.destination ≡ place.0) (λ e h. h.home) (queue place.0).standing (t.board place.0 in_rack).stands))
      place.2

  pub here : l.destination < boards_of c
  here = omega (arith, in_rack, home)

  abbrev k : ℕ
  k = l.destination

  abbrev lines : List Message
  lines = ls ++ (l ∷ [])

  lined : (j : ℕ) → j < boards_of c → Board c s.counters.offers lines j (get_or m.words j zeros) (get_or m.sent j 0) (queue j) (row_at s j)
  lined j h = board_line c s.counters.offers ls l j _ _ (queue j) (row_at s j) (t.board j h) (standing_upto j h) (waiting j h)

  shed_here : ShedOne c s.counters.offers lines k (get_or m.words k zeros) (get_or m.sent k 0) (queue k) (row_at s k) l
  shed_here = shed_least c s.counters.offers lines k _ _ (queue k) (row_at s k) l (lined k here)
      (subst (λ (j : ℕ). 1 ≤ how_many l (standing_of (queue j))) (sym home) place.2) (standing_upto k here)

  moved : (j : ℕ) → j < boards_of c → Board c s.counters.offers lines j (get_or (advance c m l).words j zeros) (get_or (advance c m l).sent j 0)
      (get_or (first_on l s).boards j no_queues) (get_or (first_on l s).rows j [])
  moved j h = at_set (λ j q row. Board c s.counters.offers lines j (get_or (advance c m l).words j zeros) (get_or (advance c m l).sent j 0) q row)
      s.boards s.rows k (shed 1 (queue k)) (drop 1 (row_at s k)) (in_eight k here) (omega (arith, here, t.tall))
      (rw (
        get_or-set_same m.words k (reaction c m l).words zeros (omega (arith, here, t.words_wide)),
        get_or-set_same m.sent k (get_or m.sent k 0 + length (sending c m l)) 0 (omega (arith, here, t.sent_wide)),
      ) shed_here.board)
      j (λ d. rw (get_or-set_other m.words k j (reaction c m l).words zeros d, get_or-set_other m.sent k j (get_or m.sent k 0 + length (sending c m l)) 0 d) (lined j h))

  -- after l the times are no more than that of l
  past_line : AllByRecursion (λ x. Known c s.counters.offers x × (x.time ≤ l.time)) lines
  past_line = All-append (λ x. Known c s.counters.offers x × (x.time ≤ l.time)) ls (l ∷ []) (older ls t.past (all_left (λ x. message_before l x ≡ false) ls (l ∷ []) shed_here.kept)) ((shed_here.known, omega arith), tt)
    where
      older : (xs : List Message) → AllByRecursion (λ x. Known c s.counters.offers x × (x.time ≤ line_time s.last)) xs → AllByRecursion (λ x. message_before l x ≡ false) xs → AllByRecursion (λ x. Known c s.counters.offers x × (x.time ≤ l.time)) xs
      older [] a u = tt
      older (x ∷ xs) a u = ((a.0.0, time_upto x l u.0), older xs a.1 u.1)

  moving_line : (xs : List Message) → AllByRecursion (λ x. Known c s.counters.offers x × After ls x) xs → AllByRecursion (λ y. message_before l y ≡ true) xs → AllByRecursion (λ x. Known c s.counters.offers x × After lines x) xs
  moving_line [] a u = tt
  moving_line (x ∷ xs) a u = ((a.0.0, after_push c s.counters.offers ls l k x a.0.1 u.0), moving_line xs a.1 u.1)

  pub one_tied : Tied c (advance c m l) lines (first_on l s)
  one_tied = record {
    eight = length-set s.boards k (shed 1 (queue k)) ∙ t.eight;
    tall = omega (arith, t.tall, length-set s.rows k (drop 1 (row_at s k)));
    words_wide = length-set m.words k (reaction c m l).words ∙ t.words_wide;
    sent_wide = length-set m.sent k (get_or m.sent k 0 + length (sending c m l)) ∙ t.sent_wide;
    logged = ap (λ xs. xs ++ (l ∷ [])) t.logged;
    board = moved;
    idle = λ j jb. get_or-set_other s.boards k j (shed 1 (queue k)) no_queues (λ e. omega (arith, here)) ∙ t.idle j jb;
    moving = moving_line (map inside s.transit) t.moving travelling;
    balance = λ x. omega (
      arith,
      t.balance x,
      count_advance c m l x least_pending.there,
      shed_here.credit_less x,
      shed_here.debit_less x,
      measure_set (how_many x) (count_append message_before x) credit s.boards k (shed 1 (queue k)) no_queues (in_eight k here),
      measure_set (how_many x) (count_append message_before x) debit s.boards k (shed 1 (queue k)) no_queues (in_eight k here),
    );
    past = past_line;
    runs_are = omega (
      arith,
      t.runs_are,
      length-append ls (l ∷ []),
      shed_here.fewer,
      measure_set length length-append standing_of s.boards k (shed 1 (queue k)) no_queues (in_eight k here),
    );
    committed_are = omega (arith, t.committed_are, length-append ls (l ∷ []));
  }

  -- what stands after
  pub standing_one : (x : Message) → how_many x (standing (first_on l s)) + one x l ≡ how_many x (standing s)
  standing_one x = omega (arith, shed_here.standing_less x, measure_set (how_many x) (count_append message_before x) standing_of s.boards k (shed 1 (queue k)) no_queues (in_eight k here))

-- What ties a running bench to the sequential machine, and what a change at one board leaves of that.
use Rattle.std.proofs.Common.{◌≡◌, ℕ, ◌+◌, ◌<◌, ◌≤◌, true, false, ◌⊎◌, List, [], ◌∷◌, ◌++◌, map, length, get_or, set, ◌∙◌, inl, inr, arith}
use Rattle.std.specs.List.{AllByRecursion}
use Rattle.std.proofs.ByRecursion.{All-weaker}
use Rattle.std.proofs.lemmas.List.{get_or-set_other, get_or-set_same, length-append, length-set}
use Rattle.std.proofs.lemmas.Bool.{cases_eq}
use Rattle.rows.proofs.Sorted.{count_append}
use Rattle.bus.specs.Kinds.{outside}
use Rattle.bus.specs.Order.{message_before}
use Rattle.bus.specs.Reactions.{listed, zeros}
use Rattle.bus.specs.declared.Message.{Message}
use Rattle.bus.specs.declared.Words.{Words}
use Rattle.savers.specs.Rows.{Row}
use Rattle.sequential.specs.Sequential.{Machine}
use Rattle.addressing.specs.Settings.{Setting, addressed, boards_of, rule_of}
use Rattle.model.specs.Offer.{line_time}
use Rattle.model.specs.State.{Event, Queues, State, at_board, flat, inside, no_queues, row_at, sends_of, standing, standing_of, with_board, with_counters, with_transit}
use Rattle.model.specs.declared.item.Item.{Item}
use Rattle.model.specs.declared.item.Item.TheVariants.{Minus, Plus}
use Rattle.model.proofs.Orders.{later, transitive}
use Rattle.model.proofs.Counts.{how_many, measure_set}
use Rattle.model.proofs.Sorted.{Sorted}

-- what a board owes, and what it has for it: the two sides of the balance
abbrev pub credit : Queues → List Message
credit q = sends_of q.standing ++ q.early

abbrev pub debit : Queues → List Message
debit q = standing_of q ++ q.open_ones

abbrev pub plus_in : Item → List Message
plus_in (Plus m) = m ∷ []
plus_in (Minus m) = []

abbrev pub minus_in : Item → List Message
minus_in (Plus m) = []
minus_in (Minus m) = m ∷ []

abbrev pub pluses : List Item → List Message
pluses xs = flat (map plus_in xs)

abbrev pub minuses : List Item → List Message
minuses xs = flat (map minus_in xs)

-- a message that goes to a board, and is no stimulus yet to come
abbrev pub Known : Setting → ℕ → Message → Type 0
Known c offers m = (m.destination < boards_of c) × ((m.source < outside) ⊎ ((m.source ≡ outside) × (m.number < offers)))

abbrev pub After : List Message → Message → Type 0
After ls m = AllByRecursion (λ l. message_before l m ≡ true) ls

abbrev pub Upto : List Message → Message → Type 0
Upto ls m = AllByRecursion (λ l. message_before m l ≡ false) ls

-- what is sent after a cause is after the lines too
pub sent_after : (ls : List Message) (m x : Message) → m.time < x.time → After ls m → After ls x
sent_after ls m x h a = All-weaker (λ l. message_before l m ≡ true) (λ l. message_before l x ≡ true) (λ l k. transitive l m x k (later m x h)) ls a

-- a row, and the events that led to it from w, the first of them numbering what it sends from n
abbrev pub Chain : Setting → ℕ → Words → ℕ → List Event → Row → Type 0
Chain c k w n [] row = row ≡ w ∷ []
Chain c k w n (e ∷ es) [] = ⊥
Chain c k w n (e ∷ es) (v ∷ row) =
    (v ≡ w) × (e.sends ≡ addressed c k e.message.time n (listed (rule_of c k w e.message).sends))
    × Chain c k (rule_of c k w e.message).words (n + length e.sends) es row

module _ (c : Setting) (offers : ℕ) (ls : List Message) where
  abbrev pub Sent : Message → Message → Type 0
  Sent m x = (m.time < x.time) × Known c offers x

  pub record Stands (k : ℕ) (e : Event) : Type 0 where
    pub known : Known c offers e.message
    pub home : e.message.destination ≡ k
    pub kept : Upto ls e.message
    pub sent_later : AllByRecursion (Sent e.message) e.sends

  pub record Waits (k : ℕ) (m : Message) : Type 0 where
    pub known : Known c offers m
    pub home : m.destination ≡ k
    pub later : After ls m

  pub record Board (k : ℕ) (w : Words) (n : ℕ) (q : Queues) (row : Row) : Type 0 where
    pub sent_is : q.sent ≡ n
    pub chain : Chain c k w n q.standing row
    pub ordered : Sorted (debit q)
    pub stands : AllByRecursion (Stands k) q.standing
    pub opens : AllByRecursion (Waits k) q.open_ones
    pub earlies : AllByRecursion (Waits k) q.early

-- the bench s, with the lines ls behind it, and the machine m
pub record Tied (c : Setting) (m : Machine) (ls : List Message) (s : State) : Type 0 where
  pub eight : length s.boards ≡ 8
  pub tall : boards_of c ≤ length s.rows
  pub words_wide : length m.words ≡ boards_of c
  pub sent_wide : length m.sent ≡ boards_of c
  pub logged : m.log ≡ ls
  pub board : (k : ℕ) → k < boards_of c → Board c s.counters.offers ls k (get_or m.words k zeros) (get_or m.sent k 0) (at_board s k) (row_at s k)
  pub idle : (k : ℕ) → boards_of c ≤ k → at_board s k ≡ no_queues
  pub moving : AllByRecursion (λ x. Known c s.counters.offers x × After ls x) (map inside s.transit)
  pub balance : (x : Message) →
      how_many x m.pending + how_many x (flat (map credit s.boards)) + how_many x (minuses s.transit)
      ≡ how_many x (pluses s.transit) + how_many x (flat (map debit s.boards))
  pub past : AllByRecursion (λ l. Known c s.counters.offers l × (l.time ≤ line_time s.last)) ls
  pub runs_are : s.counters.runs ≡ length ls + length (standing s) + s.counters.undone
  pub committed_are : s.counters.committed ≡ length ls

-- a change at one board
pub at_set : (F : ℕ → Queues → Row → Type 0) (boards : List Queues) (rows : List Row) (k : ℕ) (q : Queues) (row : Row) →
    k < length boards → k < length rows → F k q row →
    (j : ℕ) → ((j ≡ k → ⊥) → F j (get_or boards j no_queues) (get_or rows j [])) → F j (get_or (set boards k q) j no_queues) (get_or (set rows k row) j [])
at_set F boards rows k q row kb kr new j old = elim (cases_eq j k) [
  | inl e ↦ rw (e, get_or-set_same boards k q no_queues kb, get_or-set_same rows k row [] kr) new
  | inr d ↦ rw (get_or-set_other boards k j q no_queues d, get_or-set_other rows k j row [] d) (old d)
]

module _ (c : Setting) (m : Machine) (ls : List Message) (s : State) (t : Tied c m ls s) (k : ℕ) (kb : k < boards_of c) where
  in_boards : k < length s.boards
  in_boards = omega (arith, t.eight)

  in_rows : k < length s.rows
  in_rows = omega (arith, t.tall)

  pub change : (q' : Queues) (row' : Row) (transit' : List Item) (runs' undone' : ℕ) →
      Board c s.counters.offers ls k (get_or m.words k zeros) (get_or m.sent k 0) q' row' →
      AllByRecursion (λ x. Known c s.counters.offers x × After ls x) (map inside transit') →
      ((x : Message) → how_many x (credit q') + how_many x (minuses transit') + how_many x (pluses s.transit) + how_many x (debit (at_board s k))
      ≡ how_many x (credit (at_board s k)) + how_many x (minuses s.transit) + how_many x (pluses transit') + how_many x (debit q')) →
      runs' + length (standing_of (at_board s k)) + s.counters.undone ≡ s.counters.runs + length (standing_of q') + undone' →
      Tied c m ls
      (with_counters (record { offers = s.counters.offers; runs = runs'; committed = s.counters.committed; undone = undone' })
      (with_transit transit' (with_board k q' row' s)))
  change q' row' transit' runs' undone' b mv bal cnt = record {
    eight = length-set s.boards k q' ∙ t.eight;
    tall = omega (arith, t.tall, length-set s.rows k row');
    words_wide = t.words_wide;
    sent_wide = t.sent_wide;
    logged = t.logged;
    board = λ j jb. at_set (λ j q row. Board c s.counters.offers ls j (get_or m.words j zeros) (get_or m.sent j 0) q row)
        s.boards s.rows k q' row' in_boards in_rows b j (λ d. t.board j jb);
    idle = λ j jb. get_or-set_other s.boards k j q' no_queues (λ e. omega arith) ∙ t.idle j jb;
    moving = mv;
    balance = λ x. omega (
      arith,
      t.balance x,
      bal x,
      measure_set (how_many x) (count_append message_before x) credit s.boards k q' no_queues in_boards,
      measure_set (how_many x) (count_append message_before x) debit s.boards k q' no_queues in_boards,
    );
    past = t.past;
    runs_are = omega (arith, t.runs_are, cnt, measure_set length length-append standing_of s.boards k q' no_queues in_boards);
    committed_are = t.committed_are;
  }

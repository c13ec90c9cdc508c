-- What a delivery leaves.
use Rattle.std.proofs.Common.{◌≡◌, ℕ, ◌+◌, ◌-◌, ◌<◌, ◌≤◌, Bool, true, false, cond, ltb, leb, List, ◌++◌, map, length, get_or, take, drop, set, Some, None, sym, refl, ap, ◌∙◌, arith, length-drop, length-take, le-ltb, leb-false}
use Rattle.std.proofs.lemmas.List.{take_all, length-append, length-take-le, length-map}
use Rattle.rows.specs.Rows.{without}
use Rattle.bus.specs.declared.Message.{Message}
use Rattle.savers.specs.Rows.{Row, row_back}
use Rattle.racks.specs.Racks.{rows_back}
use Rattle.model.specs.declared.item.Item.{Item}
use Rattle.model.specs.declared.item.Item.TheVariants.{Plus, Minus}
use Rattle.model.specs.declared.refusal.Refusal.TheVariants.{NoItem, BoardFull, TransitFull}
use Rattle.model.specs.State.{Event, Queues, State, Answer, delivered, refused, inside, sends_of, standing_of, issued, at_board, row_at, more_undone}
use Rattle.model.specs.Deliver.{Arrival, arrive, has, no_message, deliver, deliver_item}
use Rattle.queues.specs.declared.plan.Plan.{Plan}
use Rattle.queues.specs.Arrivals.{no_place, plan_of, arrived}
use Rattle.queues.specs.declared.table.Table.{Table}
use Rattle.queues.specs.Entries.{board_in, boards_in}
use Rattle.queues.specs.Transits.{item_at}
use Rattle.queues.proofs.Changes.{sends_count, stay_within}
use Rattle.bench.specs.Counts.{all_standing}
use Rattle.bench.proofs.Standing.{standing_at}

-- ---- what an arrival leaves standing

cond_arrival : (P : Arrival → Type 0) (b : Bool) (x y : Arrival) → P x → P y → P (cond b x y)
cond_arrival P true x y h k = h
cond_arrival P false x y h k = k

-- the first events stand, as many as stay, and what the committed ones sent is the same
abbrev Stays : Queues → Arrival → Type 0
Stays q a = (a.queues.standing ≡ take a.stay q.standing) × (a.queues.sent ≡ q.sent)

arrive_stays : (item : Item) (q : Queues) → Stays q (arrive item q)
arrive_stays (Plus m) q =
    let all = sym (take_all (length q.standing) q.standing (omega arith)) in
    cond_arrival (Stays q) (has m q.early) _ _ (all, refl) (refl, refl)
arrive_stays (Minus m) q =
    let all = sym (take_all (length q.standing) q.standing (omega arith)) in
    cond_arrival (Stays q) (has m q.open_ones) _ _ (all, refl)
    (cond_arrival (Stays q) (has m (standing_of q)) _ _ (refl, refl) (all, refl))

pub stay_stand : (item : Item) (q : Queues) → length (arrive item q).queues.standing ≡ (arrive item q).stay
stay_stand item q = ap length (arrive_stays item q).0 ∙ length-take-le (arrive item q).stay q.standing (stay_within item q)

pub issued_no_more : (item : Item) (q : Queues) → issued (arrive item q).queues ≤ issued q
issued_no_more item q = omega (
  arith,
  ap (λ (es : List Event). length (sends_of es)) (arrive_stays item q).0,
  (arrive_stays item q).1,
  sends_count (arrive item q).stay q.standing,
)

pub recalled_small : (item : Item) (q : Queues) → (plan_of item q).recalled ≤ issued q
recalled_small item q = omega (arith, sends_count (arrive item q).stay q.standing)

pub undone_within : (t : Table) (p : ℕ) (item : Item) (plan : Plan) → plan ≡ plan_of item (board_in t p) → plan.undone ≤ all_standing (boards_in t)
undone_within t p item plan e = omega (arith, ap (λ (x : Plan). x.undone) e, standing_at (boards_in t) p)

-- an arrival that has its place
pub arrived_is : (item : Item) (q : Queues) → no_place item q ≡ false → arrived item q ≡ (arrive item q).queues
arrived_is item q e = ap (λ (b : Bool). cond b q (arrive item q).queues) e

-- ---- the state after a delivery

row_back_is : (row : Row) (n : ℕ) → row_back row n ≡ take (n + 1) row
row_back_is row n = both (leb n (length row - 1)) refl
  where
    both : (b : Bool) → leb n (length row - 1) ≡ b → cond b (take (n + 1) row) row ≡ take (n + 1) row
    both true h = refl
    both false h = sym (take_all (n + 1) row (omega (arith, leb-false n (length row - 1) h)))

pub item_found : (xs : List Item) (i : ℕ) (item : Item) → Some item ≡ item_at xs i → (leb (length xs) i ≡ false) × (item ≡ get_or xs i (Plus no_message))
item_found xs i item e = both (leb (length xs) i) refl e
  where
    both : (b : Bool) → leb (length xs) i ≡ b → Some item ≡ cond b None (Some (get_or xs i (Plus no_message))) → (leb (length xs) i ≡ false) × (item ≡ get_or xs i (Plus no_message))
    both true h f = let z : ◌≡◌ {A = ℕ} 0 1 = cc in absurd (omega arith)
    both false h f = let z : item ≡ get_or xs i (Plus no_message) = cc in (h, z)

length_without : {X : Type 0} (i : ℕ) (xs : List X) → i < length xs → length (without i xs) + 1 ≡ length xs
length_without i xs lt = omega (arith, length-append (take i xs) (drop (i + 1) xs), length-take i xs, length-drop (i + 1) xs)

module _ (s : State) (i : ℕ) (item : Item) where
  abbrev pub Gave : List Row → List Queues → List Item → ℕ → State × Answer
  Gave rows' boards' transit' n = (
    record {
      rows = rows';
      boards = boards';
      transit = transit';
      counters = more_undone n s.counters;
      last = s.last;
    },
    delivered n,
  )

  pub delivered_is : (m : Message) (p : ℕ) (plan : Plan) (sends : List Message) (rows' : List Row) (boards' : List Queues) (transit₁ transit' : List Item)
      → Some item ≡ item_at s.transit i → m ≡ inside item → p ≡ m.destination → plan ≡ plan_of item (at_board s p)
      → plan.full ≡ false → length s.transit - 1 + plan.recalled ≤ 128
      → rows' ≡ rows_back s.rows m.destination plan.stay
      → sends ≡ sends_of (drop plan.stay (at_board s p).standing)
      → transit₁ ≡ without i s.transit → transit' ≡ take 128 (transit₁ ++ map Minus sends)
      → boards' ≡ set s.boards p (arrived item (at_board s p))
      → Gave rows' boards' transit' plan.undone ≡ deliver s i
  delivered_is m p plan sends rows' boards' transit₁ transit' ei em ep eplan full fits er es e₁ e₂ eb =
      let k = (inside item).destination in
      let q = at_board s k in
      let a = arrive item q in
      let back = sends_of (drop a.stay q.standing) in
      let count = length q.standing - a.stay in
      let f = item_found s.transit i item ei in
      let ek : p ≡ k = ep ∙ ap (λ (x : Message). x.destination) em in
      let epl : plan ≡ plan_of item q = eplan ∙ ap (λ (x : ℕ). plan_of item (at_board s x)) ek in
      let none : no_place item q ≡ false = ap (λ (x : Plan). x.full) (sym epl) ∙ full in
      let rows'' = set s.rows k (take (a.stay + 1) (row_at s k)) in
      let er' : rows' ≡ rows'' =
      er ∙ ap (λ (x : Message). rows_back s.rows x.destination plan.stay) em
      ∙ ap (λ (x : Plan). rows_back s.rows k x.stay) epl ∙ ap (set s.rows k) (row_back_is (row_at s k) a.stay) in
      let es' : sends ≡ back = es ∙ ap (λ (x : ℕ). sends_of (drop plan.stay (at_board s x).standing)) ek ∙ ap (λ (x : Plan). sends_of (drop x.stay q.standing)) epl in
      let fits' : length s.transit - 1 + length back ≤ 128 = omega (arith, fits, ap (λ (x : Plan). x.recalled) epl) in
      let transit'' = without i s.transit ++ map Minus back in
      let long : length transit'' ≤ 128 = omega (arith, length-append (without i s.transit) (map Minus back), length-map back Minus, length_without i s.transit (leb-false (length s.transit) i f.0), fits') in
      let et : transit' ≡ transit'' =
      e₂ ∙ ap (λ (x : List Item). take 128 (x ++ map Minus sends)) e₁ ∙ ap (λ (x : List Message). take 128 (without i s.transit ++ map Minus x)) es' ∙ take_all 128 transit'' long in
      let boards'' = set s.boards k a.queues in
      let eb' : boards' ≡ boards'' = eb ∙ ap (λ (x : ℕ). set s.boards x (arrived item (at_board s x))) ek ∙ ap (set s.boards k) (arrived_is item q none) in
      let eu : plan.undone ≡ count = ap (λ (x : Plan). x.undone) epl in
      let small : ltb 128 (length s.transit - 1 + length back) ≡ false = le-ltb 128 (length s.transit - 1 + length back) fits' in
      let last = Gave rows'' boards'' transit'' count in
      let f₁ : Bool → State × Answer = λ b. cond b (s, refused NoItem) (cond (no_place item q) (s, refused BoardFull) (cond (ltb 128 (length s.transit - 1 + length back)) (s, refused TransitFull) last)) in
      let f₂ : Bool → State × Answer = λ b. cond b (s, refused BoardFull) (cond (ltb 128 (length s.transit - 1 + length back)) (s, refused TransitFull) last) in
      let f₃ : Bool → State × Answer = λ b. cond b (s, refused TransitFull) last in
      let whole : deliver_item s i item ≡ last = ap f₁ f.0 ∙ ap f₂ none ∙ ap f₃ small in
      ap (λ x. Gave x boards' transit' plan.undone) er'
      ∙ ap (λ x. Gave rows'' x transit' plan.undone) eb'
      ∙ ap (λ x. Gave rows'' boards'' x plan.undone) et
      ∙ ap (λ x. Gave rows'' boards'' transit'' x) eu
      ∙ sym whole ∙ ap (deliver_item s i) f.1

-- What an arrival does to the queues of a board.
use Rattle.std.proofs.Common.{◌≡◌, ℕ, suc, ◌+◌, ◌-◌, ◌≤◌, true, false, cond, ◌⊎◌, List, [], ◌∷◌, ◌++◌, map, length, take, drop, sym, refl, ap, ◌∙◌, subst, inl, inr, add-one, arith}
use Rattle.std.specs.List.{AllByRecursion}
use Rattle.std.proofs.ByRecursion.{All-append, All-map, All-weaker}
use Rattle.std.proofs.lemmas.List.{append_assoc, drop_all, length-append, length-map, map-append, take_all, take-append-drop}
use Rattle.std.proofs.lemmas.Bool.{cases_Bool, false≢true, true≢false}
use Rattle.rows.proofs.Laws.{length_insert}
use Rattle.rows.proofs.Sorted.{count_append, count_insert}
use Rattle.rows.specs.Order.{same}
use Rattle.rows.specs.Rows.{insert, without_one}
use Rattle.bus.specs.Order.{message_before}
use Rattle.bus.specs.declared.Message.{Message}
use Rattle.model.specs.Deliver.{Arrival, arrive, has, not_after, room, undo, with_early, with_open}
use Rattle.model.specs.State.{Event, Queues, flat, inside, sends_of, standing_of}
use Rattle.model.specs.declared.item.Item.{Item}
use Rattle.model.specs.declared.item.Item.TheVariants.{Minus, Plus}
use Rattle.model.proofs.Orders.{before_differs, before_upto, comes_after, decided, irreflexive, is_same, itself}
use Rattle.model.proofs.Counts.{all_insert, all_without, count_has, count_without, has_count, how_many, none_has, one, one_other}
use Rattle.model.proofs.Sorted.{Sorted, sorted_insert, sorted_insert_behind, sorted_left, sorted_without, sorted_without_behind}
use Rattle.model.proofs.Tied.{credit, debit, minus_in, plus_in}
use Rattle.model.proofs.Transits.{flat_append}

abbrev pub messages : List Event → List Message
messages es = map (λ (e : Event). e.message) es

-- lists of events
pub all_unmap : {A B : Type 0} (P : B → Type 0) (f : A → B) (xs : List A) → AllByRecursion P (map f xs) → AllByRecursion (λ x. P (f x)) xs
all_unmap P f [] h = tt
all_unmap P f (x ∷ xs) h = (h.0, all_unmap P f xs h.1)

pub sends_append : (xs ys : List Event) → sends_of (xs ++ ys) ≡ sends_of xs ++ sends_of ys
sends_append xs ys = ap flat (map-append (λ (e : Event). e.sends) xs ys) ∙ flat_append (map (λ (e : Event). e.sends) xs) (map (λ (e : Event). e.sends) ys)

pub sends_split : (p : ℕ) (es : List Event) → sends_of (take p es) ++ sends_of (drop p es) ≡ sends_of es
sends_split p es = sym (sends_append (take p es) (drop p es)) ∙ ap sends_of (take-append-drop p es)

messages_split : (p : ℕ) (es : List Event) → messages (take p es) ++ messages (drop p es) ≡ messages es
messages_split p es = sym (map-append (λ (e : Event). e.message) (take p es) (drop p es)) ∙ ap messages (take-append-drop p es)

pub debit_undo : (p : ℕ) (q : Queues) → debit (undo p q) ≡ debit q
debit_undo p q = sym (append_assoc (messages (take p q.standing)) (messages (drop p q.standing)) q.open_ones)
    ∙ ap (λ l. l ++ q.open_ones) (messages_split p q.standing)

count_sends : (x : Message) (p : ℕ) (es : List Event) → how_many x (sends_of (take p es)) + how_many x (sends_of (drop p es)) ≡ how_many x (sends_of es)
count_sends x p es = sym (count_append message_before x (sends_of (take p es)) (sends_of (drop p es))) ∙ ap (how_many x) (sends_split p es)

-- where m belongs among the standing events
not_after_within : (m : Message) (es : List Event) → not_after m es ≤ length es
not_after_within m [] = omega arith
not_after_within m (e ∷ es) = elim (cases_Bool (message_before m e.message)) [
  | inl h ↦ rw h (omega arith)
  | inr h ↦ rw h (omega (arith, not_after_within m es))
]

front_upto : (m : Message) (es : List Event) → AllByRecursion (λ e. message_before m e.message ≡ false) (take (not_after m es) es)
front_upto m [] = tt
front_upto m (e ∷ es) = elim (cases_Bool (message_before m e.message)) [
  | inl h ↦ rw h tt
  | inr h ↦ rw (h, add-one) (h, front_upto m es)
]

all_after : (m : Message) (e : Event) (es : List Event) → message_before m e.message ≡ true → Sorted (messages (e ∷ es)) → AllByRecursion (λ f. message_before m f.message ≡ true) (e ∷ es)
all_after m e es h s = (
  h,
  All-weaker (λ (f : Event). message_before f.message e.message ≡ false) (λ f. message_before m f.message ≡ true) (λ f k. before_upto m e.message f.message h k) es
      (all_unmap (λ x. message_before x e.message ≡ false) (λ (f : Event). f.message) es s.0),
)

back_after : (m : Message) (es : List Event) → Sorted (messages es) → AllByRecursion (λ e. message_before m e.message ≡ true) (drop (not_after m es) es)
back_after m [] s = tt
back_after m (e ∷ es) s = elim (cases_Bool (message_before m e.message)) [
  | inl h ↦ rw h (all_after m e es h s)
  | inr h ↦ rw (h, add-one) (back_after m es s.1)
]

none_after : (m : Message) (es : List Event) → AllByRecursion (λ e. message_before m e.message ≡ true) es → has m (messages es) ≡ false
none_after m [] a = refl
none_after m (e ∷ es) a = rw (before_differs m e.message a.0) (none_after m es a.1)

-- where m stands itself
some_not_after : (m : Message) (es : List Event) → Sorted (messages es) → has m (messages es) ≡ true → (j : ℕ) × (not_after m es ≡ suc j)
some_not_after m [] s h = absurd (false≢true h)
some_not_after m (e ∷ es) s h = elim (cases_Bool (message_before m e.message)) [
  | inl k ↦ absurd (false≢true (sym (none_after m (e ∷ es) (all_after m e es k s)) ∙ h))
  | inr k ↦ (not_after m es, rw (k, add-one))
]

none_not_after : (m : Message) (es : List Event) → AllByRecursion (λ e. message_before e.message m ≡ false) es → has m (messages es) ≡ false → not_after m es ≡ 0
none_not_after m [] a h = refl
none_not_after m (e ∷ es) a h = elim (cases_Bool (message_before m e.message)) [
  | inl k ↦ rw k
  | inr k ↦ absurd (true≢false (sym (rw (decided m e.message k a.0) (rw (itself e.message))) ∙ h))
]

-- the events from the last equal to m on
back_last : (m : Message) (es : List Event) → Sorted (messages es) → has m (messages es) ≡ true →
    AllByRecursion (λ e. message_before e.message m ≡ false) (drop (not_after m es - 1) es) × (has m (messages (drop (not_after m es - 1) es)) ≡ true)
back_last m [] s h = absurd (false≢true h)
back_last m (e ∷ es) s h = elim (cases_Bool (message_before m e.message)) [
  | inl k ↦ absurd (false≢true (sym (none_after m (e ∷ es) (all_after m e es k s)) ∙ h))
  | inr k ↦ elim (cases_Bool (has m (messages es))) [
    | inl g ↦
        let n = some_not_after m es s.1 g in
        let here : not_after m (e ∷ es) - 1 ≡ suc n.0 = rw k (omega (arith, n.1)) in
        let there : not_after m es - 1 ≡ n.0 = omega (arith, n.1) in
        rw here (rw there at (back_last m es s.1 g))
    | inr g ↦ elim (cases_Bool (same message_before m e.message)) [
      | inl f ↦
          let is : m ≡ e.message = is_same m e.message f in
          let upto : AllByRecursion (λ (x : Event). message_before x.message m ≡ false) (e ∷ es) = subst (λ (y : Message). AllByRecursion (λ (x : Event). message_before x.message y ≡ false) (e ∷ es)) (sym is) (irreflexive e.message, all_unmap (λ x. message_before x e.message ≡ false) (λ (x : Event). x.message) es s.0) in
          let here : not_after m (e ∷ es) - 1 ≡ 0 = rw k (omega (arith, none_not_after m es upto.1 g)) in
          rw here (upto, h)
      | inr f ↦ absurd (false≢true (sym (rw (f, g)) ∙ h))
    ]
  ]
]

-- ---- what is in the in-row after an arrival, and how much

count_placed : (x m : Message) (p : ℕ) (q : Queues) → how_many x (messages (take p q.standing) ++ insert message_before m (undo p q).open_ones) ≡ one x m + how_many x (debit q)
count_placed x m p q = omega (
  arith,
  count_append message_before x (messages (take p q.standing)) (insert message_before m (undo p q).open_ones),
  count_insert message_before x m (undo p q).open_ones,
  count_append message_before x (messages (take p q.standing)) (undo p q).open_ones,
  ap (how_many x) (debit_undo p q),
)

count_taken : (x m : Message) (p : ℕ) (q : Queues) → has m (undo p q).open_ones ≡ true →
    how_many x (messages (take p q.standing) ++ without_one message_before m (undo p q).open_ones) + one x m ≡ how_many x (debit q)
count_taken x m p q h = omega (
  arith,
  count_append message_before x (messages (take p q.standing)) (without_one message_before m (undo p q).open_ones),
  count_without x m (undo p q).open_ones h,
  count_append message_before x (messages (take p q.standing)) (undo p q).open_ones,
  ap (how_many x) (debit_undo p q),
)

count_closed : (x m : Message) (q : Queues) → has m q.open_ones ≡ true → how_many x (standing_of q ++ without_one message_before m q.open_ones) + one x m ≡ how_many x (debit q)
count_closed x m q h = omega (
  arith,
  count_append message_before x (standing_of q) q.open_ones,
  count_append message_before x (standing_of q) (without_one message_before m q.open_ones),
  count_without x m q.open_ones h,
)

pub room_is : (q : Queues) → room q ≡ length (debit q) + length q.early
room_is q = omega (arith, length-append (standing_of q) q.open_ones, length-map q.standing (λ (e : Event). e.message))

length_without : (m : Message) (ms : List Message) → length (without_one message_before m ms) ≤ length ms
length_without m [] = omega arith
length_without m (x ∷ xs) = elim (cases_Bool (same message_before m x)) [
  | inl h ↦ rw h (omega arith)
  | inr h ↦ rw h (omega (arith, length_without m xs))
]

length_placed : (m : Message) (p : ℕ) (q : Queues) → length (messages (take p q.standing) ++ insert message_before m (undo p q).open_ones) ≡ length (debit q) + 1
length_placed m p q = omega (
  arith,
  length-append (messages (take p q.standing)) (insert message_before m (undo p q).open_ones),
  length_insert message_before m (undo p q).open_ones,
  length-append (messages (take p q.standing)) (undo p q).open_ones,
  ap length (debit_undo p q),
)

length_taken : (m : Message) (p : ℕ) (q : Queues) → length (messages (take p q.standing) ++ without_one message_before m (undo p q).open_ones) ≤ length (debit q)
length_taken m p q = omega (
  arith,
  length-append (messages (take p q.standing)) (without_one message_before m (undo p q).open_ones),
  length_without m (undo p q).open_ones,
  length-append (messages (take p q.standing)) (undo p q).open_ones,
  ap length (debit_undo p q),
)

-- ---- no message is in the in-row and early too

abbrev pub Apart : Queues → Type 0
Apart q = (x : Message) → (how_many x (debit q) ≡ 0) ⊎ (how_many x q.early ≡ 0)

pub apart_less : (q q' : Queues) → ((x : Message) → how_many x (debit q') ≤ how_many x (debit q)) → ((x : Message) → how_many x q'.early ≤ how_many x q.early) → Apart q → Apart q'
apart_less q q' f g a x = elim (a x) [ inl e ↦ inl (omega (arith, f x, e)) | inr e ↦ inr (omega (arith, g x, e)) ]

-- one more of m on one side, none of it on the other
apart_more : (x m : Message) (as' bs : List Message) (a : ℕ) → a ≡ one x m + how_many x as' → how_many m bs ≡ 0 → (how_many x as' ≡ 0) ⊎ (how_many x bs ≡ 0) → (a ≡ 0) ⊎ (how_many x bs ≡ 0)
apart_more x m as' bs a more none h = elim (cases_Bool (same message_before x m)) [
  | inl e ↦ inr (ap (λ y. how_many y bs) (is_same x m e) ∙ none)
  | inr e ↦ elim h [ inl k ↦ inl (omega (arith, one_other x m e)) | inr k ↦ inr k ]
]

either : {A B : Type 0} → A ⊎ B → B ⊎ A
either (inl a) = inr a
either (inr b) = inl b

-- what the proofs about a delivery use of an arrival
pub record Arrives (i : Item) (q : Queues) (a : Arrival) : Type 1 where
  pub stay_within : a.stay ≤ length q.standing
  pub standing_is : a.queues.standing ≡ take a.stay q.standing
  pub sent_same : a.queues.sent ≡ q.sent
  pub ordered : Sorted (debit a.queues)
  pub undone_after : AllByRecursion (λ e. message_before e.message (inside i) ≡ false) (drop a.stay q.standing)
  pub counts : (x : Message) →
      how_many x (credit a.queues) + how_many x (plus_in i) + how_many x (debit q) + how_many x (sends_of (drop a.stay q.standing))
      ≡ how_many x (credit q) + how_many x (minus_in i) + how_many x (debit a.queues)
  pub opens : (P : Message → Type 0) → AllByRecursion P q.open_ones → P (inside i) → AllByRecursion P (messages (drop a.stay q.standing)) → AllByRecursion P a.queues.open_ones
  pub earlies : (P : Message → Type 0) → AllByRecursion P q.early → P (inside i) → AllByRecursion P a.queues.early
  pub early_ordered : Sorted q.early → Sorted a.queues.early
  pub apart : Apart q → Apart a.queues
  pub places : room a.queues ≤ room q + cond a.needs_place 1 0

none_undone : (q : Queues) → drop (length q.standing) q.standing ≡ []
none_undone q = drop_all (length q.standing) q.standing (omega arith)

has_front : (m : Message) (xs ys : List Message) → has m xs ≡ true → has m (xs ++ ys) ≡ true
has_front m xs ys h = has_count m (xs ++ ys) (omega (arith, count_has m xs h, count_append message_before m xs ys))

pub arrives : (i : Item) (q : Queues) → Sorted (debit q) → Arrives i q (arrive i q)
arrives (Plus m) q s = elim (cases_Bool (has m q.early)) [
  | inl h ↦ rw h (record {
    stay_within = omega arith;
    standing_is = sym (take_all (length q.standing) q.standing (omega arith));
    sent_same = refl;
    ordered = s;
    undone_after = rw (none_undone q) tt;
    counts = λ x. omega (
      arith,
      ap (λ l. how_many x (sends_of l)) (none_undone q),
      count_append message_before x (sends_of q.standing) q.early,
      count_append message_before x (sends_of q.standing) (without_one message_before m q.early),
      count_without x m q.early h,
    );
    opens = λ P o p d. o;
    earlies = λ P e p. all_without P m q.early e;
    early_ordered = sorted_without m q.early;
    apart = apart_less q (with_early (without_one message_before m q.early) q) (λ x. omega arith) (λ x. omega (arith, count_without x m q.early h));
    places = omega (arith, length_without m q.early);
  })
  | inr h ↦
      let p = not_after m q.standing in
      let st = q.standing in
      rw h (record {
        stay_within = not_after_within m st;
        standing_is = refl;
        sent_same = refl;
        ordered = sorted_insert_behind m (messages (take p st)) (messages (drop p st) ++ q.open_ones)
            (All-map (λ x. message_before m x ≡ false) (λ (e : Event). e.message) (take p st) (front_upto m st)) (subst Sorted (sym (debit_undo p q)) s);
        undone_after = All-weaker (λ (e : Event). message_before m e.message ≡ true) (λ e. message_before e.message m ≡ false) (λ e k. comes_after m e.message k) (drop p st)
            (back_after m st (sorted_left (messages st) q.open_ones s));
        counts = λ x. omega (
          arith,
          count_sends x p st,
          count_append message_before x (sends_of (take p st)) q.early,
          count_append message_before x (sends_of st) q.early,
          count_placed x m p q,
        );
        opens = λ P o pm d. all_insert P m (messages (drop p st) ++ q.open_ones) pm (All-append P (messages (drop p st)) q.open_ones d o);
        earlies = λ P e pm. e;
        early_ordered = λ e. e;
        apart = λ d x. apart_more x m (debit q) q.early _ (count_placed x m p q) (none_has m q.early h) (d x);
        places = omega (arith, room_is q, room_is (with_open (insert message_before m (undo p q).open_ones) (undo p q)), length_placed m p q);
      })
]
arrives (Minus m) q s = elim (cases_Bool (has m q.open_ones)) [
  | inl h ↦ rw h (record {
    stay_within = omega arith;
    standing_is = sym (take_all (length q.standing) q.standing (omega arith));
    sent_same = refl;
    ordered = sorted_without_behind m (standing_of q) q.open_ones s;
    undone_after = rw (none_undone q) tt;
    counts = λ x. omega (arith, ap (λ l. how_many x (sends_of l)) (none_undone q), count_closed x m q h);
    opens = λ P o p d. all_without P m q.open_ones o;
    earlies = λ P e p. e;
    early_ordered = λ e. e;
    apart = apart_less q (with_open (without_one message_before m q.open_ones) q) (λ x. omega (arith, count_closed x m q h)) (λ x. omega arith);
    places = omega (arith, length_without m q.open_ones);
  })
  | inr h ↦ elim (cases_Bool (has m (standing_of q))) [
    | inl g ↦
        let p = not_after m q.standing - 1 in
        let st = q.standing in
        let b = back_last m st (sorted_left (messages st) q.open_ones s) g in
        let there : has m (undo p q).open_ones ≡ true = has_front m (messages (drop p st)) q.open_ones b.1 in
        rw (h, g) (record {
          stay_within = omega (arith, not_after_within m st);
          standing_is = refl;
          sent_same = refl;
          ordered = sorted_without_behind m (messages (take p st)) (messages (drop p st) ++ q.open_ones) (subst Sorted (sym (debit_undo p q)) s);
          undone_after = b.0;
          counts = λ x. omega (
            arith,
            count_sends x p st,
            count_append message_before x (sends_of (take p st)) q.early,
            count_append message_before x (sends_of st) q.early,
            count_taken x m p q there,
          );
          opens = λ P o pm d. all_without P m (messages (drop p st) ++ q.open_ones) (All-append P (messages (drop p st)) q.open_ones d o);
          earlies = λ P e pm. e;
          early_ordered = λ e. e;
          apart = apart_less q (with_open (without_one message_before m (undo p q).open_ones) (undo p q)) (λ x. omega (arith, count_taken x m p q there)) (λ x. omega arith);
          places = omega (arith, room_is q, room_is (with_open (without_one message_before m (undo p q).open_ones) (undo p q)), length_taken m p q);
        })
    | inr g ↦ rw (h, g) (record {
      stay_within = omega arith;
      standing_is = sym (take_all (length q.standing) q.standing (omega arith));
      sent_same = refl;
      ordered = s;
      undone_after = rw (none_undone q) tt;
      counts = λ x. omega (
        arith,
        ap (λ l. how_many x (sends_of l)) (none_undone q),
        count_append message_before x (sends_of q.standing) q.early,
        count_append message_before x (sends_of q.standing) (insert message_before m q.early),
        count_insert message_before x m q.early,
      );
      opens = λ P o p d. o;
      earlies = λ P e p. all_insert P m q.early p e;
      early_ordered = sorted_insert m q.early;
      apart = λ d x. either (apart_more x m q.early (debit q) _ (count_insert message_before x m q.early)
          (omega (arith, count_append message_before m (standing_of q) q.open_ones, none_has m (standing_of q) g, none_has m q.open_ones h)) (either (d x)));
      places = omega (arith, length_insert message_before m q.early);
    })
  ]
]

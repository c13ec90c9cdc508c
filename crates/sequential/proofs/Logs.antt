-- Every log of the one-by-one machine is in order, and each of its lines has a cause. Assumes nothing.
use Rattle.std.proofs.Common.{◌≡◌, ℕ, zero, suc, ◌+◌, ◌<◌, true, false, ◌⊎◌, List, [], ◌∷◌, ◌++◌, length, get_or, Some, None, Option, sym, refl, ap, ◌∙◌, subst, inl, inr, add-one, arith}
use Rattle.std.specs.List.{Contains, All}
use Rattle.std.proofs.lemmas.Bool.{cases_Bool, cases_lt, lt-ltb, ne_eqb, cond-false}
use Rattle.std.proofs.lemmas.List.{get_or_append_left, get_or_push, length_push}
use Rattle.std.proofs.lemmas.List.Elements.{All-nil, All-cons, All-push, All-weaker, All-append, All-contains_itself}
use Rattle.rows.proofs.Sorted.{asymmetric}
use Rattle.bus.specs.declared.Message.{Message}
use Rattle.bus.specs.declared.Words.{Words}
use Rattle.bus.specs.declared.Send.{Send}
use Rattle.bus.specs.Order.{message_before, message_total}
use Rattle.bus.specs.Reactions.{listed}
use Rattle.rows.specs.Rows.{sorted, least, without_one}
use Rattle.addressing.specs.Settings.{Setting, boards_of, passes, addressed_in}
use Rattle.sequential.specs.Sequential.{Machine, fresh, reaction, sending, advance, step_on, step, steps}
use Rattle.sequential.specs.Laws.{after, line, Caused, LawfulLog}
use Rattle.sequential.proofs.Firsts.{all_and, AtLeast, least_keeps, all_without, sorted_push, not_before_not, least_first}

-- a message of a later time comes later
pub later : (a b : Message) → a.time < b.time → message_before a b ≡ true
later a b h = cond-false _ _ _ (ne_eqb a.time b.time (omega arith)) ∙ lt-ltb a.time b.time h

-- what is sent is later than its cause
pub sent_later : (boards end k t n : ℕ) (xs : List Send) → All (λ y. t < y.time) (addressed_in boards end k t n xs)
sent_later boards end k t n [] = All-nil (λ y. t < y.time)
sent_later boards end k t n (x ∷ xs) = elim (cases_Bool (passes boards end t x)) [
  | inl h ↦ rw h (All-cons (λ y. t < y.time) _ _ (omega arith) (sent_later boards end k t (n + 1) xs))
  | inr h ↦ rw h (sent_later boards end k t n xs)
]

-- one step more
pub steps_more : (c : Setting) (n : ℕ) (m : Machine) → steps c (suc n) m ≡ step c (steps c n m)
steps_more c zero m = refl
steps_more c (suc n) m = steps_more c n (step c m)

module _ (c : Setting) (starts : List Words) (stimuli : List Message) where
  -- where a message that is pending came from
  abbrev From : List Message → Message → Type 0
  From log x = Contains stimuli x ⊎ ((j : ℕ) × (j < length log) × Contains (sending c (after c starts stimuli j) (line log j)) x)

  -- what holds of the machine between its steps
  record Kept (m : Machine) : Type 0 where
    reached : after c starts stimuli (length m.log) ≡ m
    ordered : sorted message_before m.log ≡ true
    above : All (λ x. All (λ l. message_before x l ≡ false) m.log) m.pending
    came : All (From m.log) m.pending
    turns : (i : ℕ) → i < length m.log → least message_before (after c starts stimuli i).pending ≡ Some (line m.log i)
    causes : (i : ℕ) → i < length m.log → Caused c starts stimuli m.log i

  none_above : (xs : List Message) → All (λ x. All (λ l. message_before x l ≡ false) []) xs
  none_above xs = λ k d within. All-nil _

  kept_fresh : Kept (fresh c starts stimuli)
  kept_fresh = record {
    reached = refl;
    ordered = refl;
    above = none_above stimuli;
    came = All-weaker (Contains stimuli) (From []) (λ x h. inl h) stimuli (All-contains_itself stimuli);
    turns = λ i h. absurd (omega arith);
    causes = λ i h. absurd (omega arith);
  }

  -- a line stays where it is
  line_stays : (log : List Message) (x : Message) (i : ℕ) → i < length log → line (log ++ x ∷ []) i ≡ line log i
  line_stays log x i h = get_or_append_left log (x ∷ []) _ i h

  last_line : (log : List Message) (x : Message) (i : ℕ) → length log ≡ i → line (log ++ x ∷ []) i ≡ x
  last_line log x i h = get_or_push log x _ i h

  from_more : (log : List Message) (x y : Message) → From log y → From (log ++ x ∷ []) y
  from_more log x y (inl h) = inl h
  from_more log x y (inr h) = inr (
    h.0,
    omega (arith, h.1, length_push log x),
    subst (λ (l : Message). Contains (sending c (after c starts stimuli h.0) l) y) (sym (line_stays log x h.0 h.1)) h.2,
  )

  module _ (m : Machine) (x : Message) (is : least message_before m.pending ≡ Some x) (k : Kept m) where
    abbrev new : List Message
    new = m.log ++ x ∷ []

    chosen : (P : Message → Type 0) → All P m.pending → P x
    chosen P a = subst (AtLeast message_before P) is (least_keeps message_before P m.pending a)

    next : after c starts stimuli (length new) ≡ advance c m x
    next =
        ap (after c starts stimuli) (length_push m.log x ∙ add-one (length m.log))
        ∙ steps_more c (length m.log) (fresh c starts stimuli)
        ∙ ap (step c) k.reached
        ∙ ap (step_on c m) is

    above_sent : (y : Message) → x.time < y.time → All (λ l. message_before y l ≡ false) new
    above_sent y h =
        let not-x : message_before y x ≡ false = asymmetric message_total x y (later x y h) in
        All-push (λ l. message_before y l ≡ false) m.log x
        (All-weaker (λ l. message_before x l ≡ false) (λ l. message_before y l ≡ false) (λ l n. not_before_not message_total l x y n not-x) m.log (chosen (λ z. All (λ l. message_before z l ≡ false) m.log) k.above))
        not-x

    caused_line : (i : ℕ) → length m.log ≡ i → From m.log x → Caused c starts stimuli new i
    caused_line i e (inl h) = inl (subst (Contains stimuli) (sym (last_line m.log x i e)) h)
    caused_line i e (inr h) = inr (
      h.0,
      record {
        earlier = omega (arith, h.1);
        sent = subst (λ (l : Message). Contains (sending c (after c starts stimuli h.0) l) (line new i)) (sym (line_stays m.log x h.0 h.1))
            (subst (Contains (sending c (after c starts stimuli h.0) (line m.log h.0))) (sym (last_line m.log x i e)) h.2);
      },
    )

    caused_stays : (i : ℕ) → i < length m.log → Caused c starts stimuli m.log i → Caused c starts stimuli new i
    caused_stays i l (inl h) = inl (subst (Contains stimuli) (sym (line_stays m.log x i l)) h)
    caused_stays i l (inr h) =
        let j = h.0 in
        let before-i : j < i = h.1.earlier in
        inr (
          j,
          record {
            earlier = before-i;
            sent = subst (λ (z : Message). Contains (sending c (after c starts stimuli j) z) (line new i)) (sym (line_stays m.log x j (omega arith)))
                (subst (Contains (sending c (after c starts stimuli j) (line m.log j))) (sym (line_stays m.log x i l)) h.1.sent);
          },
        )

    kept_advance : Kept (advance c m x)
    kept_advance = record {
      reached = next;
      ordered = sorted_push message_before x m.log (chosen (λ z. All (λ l. message_before z l ≡ false) m.log) k.above) k.ordered;
      above = All-append (λ y. All (λ l. message_before y l ≡ false) new) (without_one message_before x m.pending) (sending c m x)
          (all_without message_before (λ y. All (λ l. message_before y l ≡ false) new) x m.pending
          (All-weaker (λ y. All (λ l. message_before y l ≡ false) m.log × (message_before y x ≡ false)) (λ y. All (λ l. message_before y l ≡ false) new)
          (λ y h. All-push (λ l. message_before y l ≡ false) m.log x h.0 h.1) m.pending
          (all_and (λ y. All (λ l. message_before y l ≡ false) m.log) (λ y. message_before y x ≡ false) m.pending k.above (least_first message_total m.pending x is))))
          (All-weaker (λ y. x.time < y.time) (λ y. All (λ l. message_before y l ≡ false) new) above_sent (sending c m x) (sent_later (boards_of c) c.end x.destination x.time (get_or m.sent x.destination 0) (listed (reaction c m x).sends)));
      came = All-append (From new) (without_one message_before x m.pending) (sending c m x)
          (all_without message_before (From new) x m.pending (All-weaker (From m.log) (From new) (from_more m.log x) m.pending k.came))
          (All-weaker (Contains (sending c m x)) (From new)
          (λ y h. inr (
            length m.log,
            omega (arith, length_push m.log x),
            subst (λ (z : Message). Contains (sending c (after c starts stimuli (length m.log)) z) y) (sym (last_line m.log x (length m.log) refl))
                (subst (λ (n : Machine). Contains (sending c n x) y) (sym k.reached) h),
          ))
          (sending c m x) (All-contains_itself (sending c m x)));
      turns = λ i h. elim (cases_lt i (length m.log)) [
        | inl l ↦ k.turns i l ∙ ap Some (sym (line_stays m.log x i l))
        | inr g ↦
            let e : length m.log ≡ i = omega (arith, h, g, length_push m.log x) in
            ap (λ (j : ℕ). least message_before (after c starts stimuli j).pending) (sym e)
            ∙ ap (λ (n : Machine). least message_before n.pending) k.reached
            ∙ is ∙ ap Some (sym (last_line m.log x i e))
      ];
      causes = λ i h. elim (cases_lt i (length m.log)) [
        | inl l ↦ caused_stays i l (k.causes i l)
        | inr g ↦ caused_line i (omega (arith, h, g, length_push m.log x)) (chosen (From m.log) k.came)
      ];
    }

  kept_step : (m : Machine) → Kept m → Kept (step c m)
  kept_step m k = go (least message_before m.pending) refl
    where
      go : (o : Option Message) → least message_before m.pending ≡ o → Kept (step_on c m o)
      go None e = k
      go (Some x) e = kept_advance m x e k

  kept_steps : (n : ℕ) (m : Machine) → Kept m → Kept (steps c n m)
  kept_steps zero m k = k
  kept_steps (suc n) m k = kept_steps n (step c m) (kept_step m k)

  pub lawful : (n : ℕ) → LawfulLog c starts stimuli (after c starts stimuli n).log
  lawful n = let k = kept_steps n (fresh c starts stimuli) kept_fresh in record { in_order = k.ordered; least_in_turn = k.turns; caused = k.causes }

  pub stays : (n k : ℕ) → (after c starts stimuli n).pending ≡ [] → after c starts stimuli (n + k) ≡ after c starts stimuli n
  stays n zero e = let same : n + 0 ≡ n = omega arith in ap (after c starts stimuli) same
  stays n (suc k) e =
      let more : n + suc k ≡ suc (n + k) = omega arith in
      ap (after c starts stimuli) more
      ∙ steps_more c (n + k) (fresh c starts stimuli)
      ∙ ap (step c) (stays n k e)
      ∙ ap (λ (xs : List Message). step_on c (after c starts stimuli n) (least message_before xs)) e

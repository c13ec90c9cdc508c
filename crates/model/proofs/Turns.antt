-- On a bench that calls lead to, the lines written one by one are those of a commit.
use Rattle.std.proofs.Common.{◌≡◌, ℕ, zero, suc, ◌+◌, ◌-◌, ◌<◌, ◌≤◌, false, leb, List, [], ◌∷◌, ◌++◌, map, length, get_or, take, drop, set, Some, None, Option, sym, refl, ap, ◌∙◌, subst, inl, inr, arith}
use Rattle.std.specs.List.{AllByRecursion}
use Rattle.std.proofs.lemmas.Bool.{cases_Bool, cases_lt, cond-true, le-leb}
use Rattle.rows.proofs.Sorted.{count_append, count_cons}
use Rattle.rows.specs.Rows.{least}
use Rattle.bus.specs.Order.{message_before}
use Rattle.bus.specs.Reactions.{zeros}
use Rattle.bus.specs.declared.Message.{Message}
use Rattle.savers.specs.Rows.{Row}
use Rattle.sequential.specs.Sequential.{Machine, advance}
use Rattle.addressing.specs.Settings.{Setting, boards_of}
use Rattle.model.specs.Commit.{commit, finals, in_order, is_final, lines_of_commit, shed}
use Rattle.model.specs.Law.{Reached}
use Rattle.model.specs.Lines.{after_line, commit_turns, final_front, first_event, front_of, line_of, lines_after, nearer_front, next_line, soonest, state_after}
use Rattle.model.specs.Outlook.{outlook}
use Rattle.model.specs.State.{Answer, Event, Queues, State, at_board, committed, flat, more_committed, no_queues, row_at, standing, standing_of}
use Rattle.model.specs.declared.front.Front.{Front}
use Rattle.model.proofs.Orders.{comes_after, decided, irreflexive, upto_upto}
use Rattle.model.proofs.Counts.{Lowest, all_of, how_many, least_upto, one_self}
use Rattle.model.proofs.Sorted.{sorted_left}
use Rattle.model.proofs.Tied.{Stands, Tied}
use Rattle.model.proofs.Chains.{chain_long}
use Rattle.model.proofs.LineByLine.{committed_first, committed_none, committed_on, first_on}
use Rattle.model.proofs.LineTied.{first_stands, here, home, one_tied, place, standing_upto}
use Rattle.model.proofs.CommitTied.{Listed, final_true, listed_finals, listed_least, listed_rest, outstanding_same, true_final}
use Rattle.model.proofs.Reach.{its_lines, its_machine, reached_tied}
use Rattle.model.proofs.Fronts.{soonest_there}

-- no first standing message is before that of the soonest board
abbrev Low : Option Front → List Queues → Type 0
Low None qs = (j : ℕ) (m : Message) → front_of (get_or qs j no_queues) ≡ Some m → ⊥
Low (Some f) qs = (j : ℕ) (m : Message) → front_of (get_or qs j no_queues) ≡ Some m → message_before m f.message ≡ false

never : {X : Type 0} (x : X) → ◌≡◌ {A = Option X} None (Some x) → ⊥
never x e = let z : ◌≡◌ {A = ℕ} 0 1 = cc in omega arith

same_some : {X : Type 0} (x y : X) → ◌≡◌ {A = Option X} (Some x) (Some y) → x ≡ y
same_some x y e = cc

by_place : (P : Message → Type 0) (q : Queues) (qs : List Queues) → ((m : Message) → front_of q ≡ Some m → P m) → ((j : ℕ) (m : Message) → front_of (get_or qs j no_queues) ≡ Some m → P m) →
    (j : ℕ) (m : Message) → front_of (get_or (q ∷ qs) j no_queues) ≡ Some m → P m
by_place P q qs a b zero m d = a m d
by_place P q qs a b (suc j) m d = b j m d

low_more : (k : ℕ) (q : Queues) (qs : List Queues) (a : Option Message) (r : Option Front) → front_of q ≡ a → Low r qs → Low (nearer_front k a r) (q ∷ qs)
low_more k q qs None None e h = by_place (λ _. ⊥) q qs (λ m d. never m (sym e ∙ d)) h
low_more k q qs None (Some f) e h = by_place (λ m. message_before m f.message ≡ false) q qs (λ m d. absurd (never m (sym e ∙ d))) h
low_more k q qs (Some x) None e h =
    by_place (λ m. message_before m x ≡ false) q qs (λ m d. subst (λ (y : Message). message_before y x ≡ false) (same_some x m (sym e ∙ d)) (irreflexive x)) (λ j m d. absurd (h j m d))
low_more k q qs (Some x) (Some f) e h = elim (cases_Bool (message_before f.message x)) [
  | inl b ↦ rw b (by_place (λ m. message_before m f.message ≡ false) q qs (λ m d. subst (λ (y : Message). message_before y f.message ≡ false) (same_some x m (sym e ∙ d)) (comes_after f.message x b)) h)
  | inr b ↦ rw b (by_place (λ m. message_before m x ≡ false) q qs (λ m d. subst (λ (y : Message). message_before y x ≡ false) (same_some x m (sym e ∙ d)) (irreflexive x)) (λ j m d. upto_upto x f.message m b (h j m d)))
]

low : (k : ℕ) (qs : List Queues) → Low (soonest k qs) qs
low k [] = λ j m d. never m d
low k (q ∷ qs) = low_more k q qs (front_of q) (soonest (k + 1) qs) refl (low (k + 1) qs)

-- the first standing message stands
front_counts : (es : List Event) (x : Message) → first_event es ≡ Some x → 1 ≤ how_many x (map (λ (e : Event). e.message) es)
front_counts [] x d = absurd (never x d)
front_counts (e ∷ es) x d = subst (λ (y : Message). 1 ≤ how_many y (e.message ∷ map (λ (e : Event). e.message) es)) (same_some e.message x d)
    (omega (arith, count_cons message_before e.message e.message (map (λ (e : Event). e.message) es), one_self e.message))

part_counts : (x : Message) (f : Queues → List Message) (qs : List Queues) (j : ℕ) (d : Queues) → j < length qs → how_many x (f (get_or qs j d)) ≤ how_many x (flat (map f qs))
part_counts x f [] j d h = absurd (omega arith)
part_counts x f (q ∷ qs) zero d h = omega (arith, count_append message_before x (f q) (flat (map f qs)))
part_counts x f (q ∷ qs) (suc j) d h = omega (arith, part_counts x f qs j d (omega arith), count_append message_before x (f q) (flat (map f qs)))

first_home : (c : Setting) (offers : ℕ) (ls : List Message) (k : ℕ) (es : List Event) (x : Message) → AllByRecursion (Stands c offers ls k) es → first_event es ≡ Some x → x.destination ≡ k
first_home c offers ls k [] x a d = absurd (never x d)
first_home c offers ls k (e ∷ es) x a d = subst (λ (y : Message). y.destination ≡ k) (same_some e.message x d) a.0.home

some_first : (l : Message) (es : List Event) (e : Event) (rest : List Event) → es ≡ e ∷ rest → e.message ≡ l → first_event es ≡ Some l
some_first l es e rest p q = ap first_event p ∙ ap (λ (y : Message). Some y) q

some_long : (es : List Event) (x : Message) → first_event es ≡ Some x → 1 ≤ length es
some_long [] x d = absurd (never x d)
some_long (e ∷ es) x d = omega arith

module _ (c : Setting) (m : Machine) (ls : List Message) (s : State) (t : Tied c m ls s) where
  abbrev queue : ℕ → Queues
  queue j = at_board s j

  -- what the soonest board's message is known to be
  fronted : (f : Front) → soonest 0 s.boards ≡ Some f → (f.board < length s.boards) × (front_of (queue f.board) ≡ Some f.message)
  fronted f e =
      let h = soonest_there 0 s.boards f e in
      let z : f.board - 0 ≡ f.board = omega arith in
      (omega (arith, h.1), ap (λ (i : ℕ). front_of (queue i)) (sym z) ∙ h.2)

  counted : (f : Front) → soonest 0 s.boards ≡ Some f → 1 ≤ how_many f.message (standing s)
  counted f e =
      let h = fronted f e in
      omega (arith, front_counts (queue f.board).standing f.message h.1, part_counts f.message standing_of s.boards f.board no_queues h.0)

  front_home : (f : Front) → soonest 0 s.boards ≡ Some f → f.message.destination ≡ f.board
  front_home f e = let h = fronted f e in elim (cases_lt f.board (boards_of c)) [
    | inl b ↦ first_home c s.counters.offers ls f.board (queue f.board).standing f.message (t.board f.board b).stands h.1
    | inr b ↦ absurd (never f.message (ap front_of (sym (t.idle f.board b)) ∙ h.1))
  ]

  -- nothing is final: no line
  turn_none : Listed s [] → (o : Option Message) → outlook s ≡ o → next_line o s ≡ None
  turn_none p o eo = go (soonest 0 s.boards) refl
    where
      go : (r : Option Front) → soonest 0 s.boards ≡ r → final_front o r ≡ None
      go None e = refl
      go (Some f) e = elim (cases_Bool (is_final o f.message)) [
        | inl b ↦ absurd (omega (arith, counted f e, p.all f.message (final_true s f.message o eo b)))
        | inr b ↦ rw b
      ]

  module _ (l : Message) (xs : List Message) (p : Listed s (l ∷ xs)) where
    leastly : Lowest l (standing s)
    leastly = listed_least s l xs p

    at_home : l.destination < boards_of c
    at_home = here c m ls s t l leastly p.each.0

    its_front : front_of (queue l.destination) ≡ Some l
    its_front =
        let k = l.destination in
        let pl = place c m ls s t l leastly p.each.0 in
        let there : 1 ≤ how_many l (standing_of (queue k)) = subst (λ (j : ℕ). 1 ≤ how_many l (standing_of (queue j))) (sym (home c m ls s t l leastly p.each.0)) pl.2 in
        let f = first_stands l (queue k).standing (sorted_left (standing_of (queue k)) (queue k).open_ones (t.board k at_home).ordered) there (standing_upto c m ls s t l leastly p.each.0 k at_home) in
        some_first l (queue k).standing f.0 f.1 f.2 f.3

    abbrev its : Front
    its = record { board = l.destination; message = l }

    soonest_is : soonest 0 s.boards ≡ Some its
    soonest_is = go (soonest 0 s.boards) refl (low 0 s.boards)
      where
        go : (r : Option Front) → soonest 0 s.boards ≡ r → Low r s.boards → r ≡ Some its
        go None e h = absurd (h l.destination l its_front)
        go (Some f) e h =
            let q : f.message ≡ l = decided f.message l
            (all_of (λ y. message_before y l ≡ false) (standing s) f.message (least_upto (standing s) l leastly) (counted f e)) (h l.destination l its_front) in
            let b : f.board ≡ l.destination = sym (front_home f e) ∙ ap (λ (y : Message). y.destination) q in
            let w : f ≡ its = λ i. record { board = b i; message = q i } in
            ap (λ (x : Front). Some x) w

    turn_some : (o : Option Message) → outlook s ≡ o → next_line o s ≡ Some its
    turn_some o eo = ap (final_front o) soonest_is ∙ cond-true (is_final o l) (Some its) None (true_final s l o eo p.each.0)

    sheds : after_line s (Some its) ≡ first_on l s
    sheds =
        let k = l.destination in
        let row = row_at s k in
        let long = chain_long c k (get_or m.words k zeros) (get_or m.sent k 0) (queue k).standing row (t.board k at_home).chain in
        let e = cond-true (leb 1 (length row - 1)) (drop 1 row) row (le-leb 1 (length row - 1) (omega (arith, long, some_long (queue k).standing l its_front))) in
        ap (λ (r : Row). record {
          rows = set s.rows k r;
          boards = set s.boards k (shed 1 (queue k));
          transit = s.transit;
          counters = more_committed 1 s.counters;
          last = Some l;
        }) e

-- so many turns
module _ (c : Setting) (o : Option Message) where
  turns : (n : ℕ) (xs : List Message) (m : Machine) (ls : List Message) (s : State) → Tied c m ls s → Listed s xs → outlook s ≡ o →
      (state_after o n s ≡ committed_on (take n xs) s) × (lines_after o n s ≡ take n xs)
  turns zero xs m ls s t p eo = (sym (committed_none s), refl)
  turns (suc n) [] m ls s t p eo =
      let e = turn_none c m ls s t p o eo in
      let r = turns n [] m ls s t p eo in
      let z : take n [] ≡ [] = nothing n in (
        ap (λ (x : Option Front). state_after o n (after_line s x)) e ∙ r.0 ∙ ap (λ (x : List Message). committed_on x s) z,
        ap (λ (x : Option Front). line_of x ++ lines_after o n (after_line s x)) e ∙ r.1 ∙ z,
      )
    where
      nothing : (n : ℕ) → take {A = Message} n [] ≡ []
      nothing zero = refl
      nothing (suc n) = refl
  turns (suc n) (l ∷ xs) m ls s t p eo =
      let e = turn_some c m ls s t l xs p o eo in
      let d = sheds c m ls s t l xs p in
      let low = leastly c m ls s t l xs p in
      let r = turns n xs (advance c m l) (ls ++ (l ∷ [])) (first_on l s) (one_tied c m ls s t l low p.each.0) (listed_rest c m ls s t l xs p) (ap (least message_before) (outstanding_same l s) ∙ eo) in (
        ap (λ (x : Option Front). state_after o n (after_line s x)) e ∙ ap (state_after o n) d ∙ r.0 ∙ sym (committed_first l (take n xs) s),
        ap (λ (x : Option Front). line_of x ++ lines_after o n (after_line s x)) e ∙ ap (λ (x : State). l ∷ lines_after o n x) d ∙ ap (λ (x : List Message). l ∷ x) r.1,
      )

pub turns_are : (c : Setting) (s : State) → Reached c s → (most : ℕ) → commit_turns s most ≡ commit s most
turns_are c s r most =
    let w = turns c (outlook s) most (in_order (finals s)) (its_machine c s r) (its_lines c s r) s (reached_tied c s r) (listed_finals s) refl in
    let F : State → List Message → State × Answer = λ x y. (x, committed y) in
    ap (λ (x : State). F x (lines_after (outlook s) most s)) w.0 ∙ ap (F (committed_on (lines_of_commit s most) s)) w.1

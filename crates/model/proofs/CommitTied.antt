-- A commit keeps bench and machine tied: it writes what the machine takes next, line by line.
use Rattle.std.proofs.Common.{◌≡◌, ℕ, zero, suc, ◌≤◌, true, false, List, [], ◌∷◌, ◌++◌, map, get_or, take, set, Some, None, Option, sym, refl, ap, ◌∙◌, inl, inr, arith}
use Rattle.std.specs.List.{AllByRecursion}
use Rattle.std.proofs.ByRecursion.{All-weaker}
use Rattle.std.proofs.lemmas.List.{append_assoc, append-nil}
use Rattle.std.proofs.lemmas.Bool.{cases_Bool, true≢false}
use Rattle.rows.proofs.Sorted.{count_cons}
use Rattle.bus.specs.Order.{message_before}
use Rattle.bus.specs.declared.Message.{Message}
use Rattle.sequential.specs.Sequential.{Machine}
use Rattle.addressing.specs.Settings.{Setting}
use Rattle.model.specs.Commit.{commit, finals, in_order, is_final, lines_of_commit, shed}
use Rattle.model.specs.Outlook.{open_and_early, outlook, outstanding}
use Rattle.model.specs.State.{State, at_board, flat, inside, no_queues, standing}
use Rattle.model.proofs.Orders.{before_upto, irreflexive, transitive}
use Rattle.model.proofs.Counts.{Lowest, all_from, all_of, count_filter_no, count_filter_yes, how_many, is_lowest, least_is, least_none, least_upto, one_self}
use Rattle.model.proofs.Sorted.{Sorted, count_in_order, in_order_sorted}
use Rattle.model.proofs.Followed.{Takes, follow, follow_push, takes_push}
use Rattle.model.proofs.Tied.{Tied}
use Rattle.model.proofs.LineByLine.{committed_first, committed_none, committed_on, first_on}
use Rattle.model.proofs.LineTied.{least_pending, one_tied, standing_one}

-- x is before all that is outstanding
abbrev pub Final : State → Message → Type 0
Final s x = AllByRecursion (λ y. message_before x y ≡ true) (outstanding s)

-- the final ones of what stands, in order
pub record Listed (s : State) (xs : List Message) : Type 0 where
  pub ordered : Sorted xs
  pub each : AllByRecursion (Final s) xs
  pub all : (x : Message) → Final s x → how_many x xs ≡ how_many x (standing s)

-- `is_final` tests that
pub final_true : (s : State) (x : Message) (o : Option Message) → outlook s ≡ o → is_final o x ≡ true → Final s x
final_true s x None e h = rw (least_none (outstanding s) e) tt
final_true s x (Some o) e h = All-weaker (λ y. message_before y o ≡ false) (λ y. message_before x y ≡ true) (λ y k. before_upto x o y h k) (outstanding s)
    (least_upto (outstanding s) o (least_is (outstanding s) o e))

pub true_final : (s : State) (x : Message) (o : Option Message) → outlook s ≡ o → Final s x → is_final o x ≡ true
true_final s x None e h = refl
true_final s x (Some o) e h = all_of (λ y. message_before x y ≡ true) (outstanding s) o h (least_is (outstanding s) o e).there

pub listed_finals : (s : State) → Listed s (in_order (finals s))
listed_finals s = record {
  ordered = in_order_sorted (finals s);
  each = all_from (Final s) (in_order (finals s)) λ x h. passes x (omega (arith, h, count_in_order x (finals s)));
  all = λ x h. count_in_order x (finals s) ∙ count_filter_yes (is_final (outlook s)) x (standing s) (true_final s x (outlook s) refl h);
}
  where
    passes : (x : Message) → 1 ≤ how_many x (finals s) → Final s x
    passes x h = elim (cases_Bool (is_final (outlook s) x)) [
      | inl k ↦ final_true s x (outlook s) refl k
      | inr k ↦ absurd (omega (arith, h, count_filter_no (is_final (outlook s)) x (standing s) k))
    ]

-- the first of them is the least that stands
pub listed_least : (s : State) (l : Message) (xs : List Message) → Listed s (l ∷ xs) → Lowest l (standing s)
listed_least s l xs p = record {
  there = omega (arith, p.all l p.each.0, count_cons message_before l l xs, one_self l);
  first = λ y h. sym (p.all y (All-weaker (λ z. message_before l z ≡ true) (λ z. message_before y z ≡ true) (λ z k. transitive y l z h k) (outstanding s) p.each.0)) ∙ absent y h;
}
  where
    absent : (y : Message) → message_before y l ≡ true → how_many y (l ∷ xs) ≡ 0
    absent y h = go (how_many y (l ∷ xs)) refl
      where
        go : (n : ℕ) → how_many y (l ∷ xs) ≡ n → n ≡ 0
        go zero e = refl
        go (suc n) e = absurd (true≢false (sym h ∙ all_of (λ z. message_before z l ≡ false) (l ∷ xs) y (irreflexive l, p.ordered.0) (omega arith)))

-- the others are those of what is left
map_set_same : {A B : Type 0} (f : A → B) (xs : List A) (i : ℕ) (x d : A) → f x ≡ f (get_or xs i d) → map f (set xs i x) ≡ map f xs
map_set_same f [] i x d e = refl
map_set_same f (y ∷ ys) zero x d e = ap (λ z. z ∷ map f ys) e
map_set_same f (y ∷ ys) (suc i) x d e = ap (λ zs. f y ∷ zs) (map_set_same f ys i x d e)

pub outstanding_same : (l : Message) (s : State) → outstanding (first_on l s) ≡ outstanding s
outstanding_same l s = ap (λ xs. flat xs ++ map inside s.transit)
    (map_set_same open_and_early s.boards l.destination (shed 1 (at_board s l.destination)) no_queues refl)

pub listed_rest : (c : Setting) (m : Machine) (ls : List Message) (s : State) → Tied c m ls s → (l : Message) (xs : List Message) → Listed s (l ∷ xs) → Listed (first_on l s) xs
listed_rest c m ls s t l xs p = record {
  ordered = p.ordered.1;
  each = All-weaker (Final s) (Final (first_on l s)) (λ x h. rw (outstanding_same l s) h) xs p.each.1;
  all = λ x h. omega (arith, p.all x (rw (outstanding_same l s) at h), count_cons message_before x l xs, standing_one c m ls s t l (listed_least s l xs p) p.each.0 x);
}

module _ (c : Setting) (start : Machine) where
  abbrev Follows : List Message → State → Type 0
  Follows ls s = Takes c start ls × Tied c (follow c start ls) ls s

  commit_first : (ls : List Message) (s : State) (l : Message) (xs : List Message) → Follows ls s → Listed s (l ∷ xs) → Follows (ls ++ (l ∷ [])) (first_on l s) × Listed (first_on l s) xs
  commit_first ls s l xs t p =
      let low = listed_least s l xs p in
      let m = follow c start ls in (
        (
          takes_push c start ls l t.0 (is_lowest m.pending l (least_pending c m ls s t.1 l low p.each.0)),
          rw (follow_push c start ls l) (one_tied c m ls s t.1 l low p.each.0),
        ),
        listed_rest c m ls s t.1 l xs p,
      )

  commit_lines : (n : ℕ) (xs : List Message) (ls : List Message) (s : State) → Follows ls s → Listed s xs → Follows (ls ++ take n xs) (committed_on (take n xs) s)
  commit_lines zero xs ls s t p = rw (append-nil ls, committed_none s) t
  commit_lines (suc n) [] ls s t p = rw (append-nil ls, committed_none s) t
  commit_lines (suc n) (l ∷ xs) ls s t p =
      let r = commit_first ls s l xs t p in
      rw (← (append_assoc ls (l ∷ []) (take n xs)), committed_first l (take n xs) s) (commit_lines n xs (ls ++ (l ∷ [])) (first_on l s) r.0 r.1)

  pub commit_tied : (most : ℕ) (ls : List Message) (s : State) → Takes c start ls × Tied c (follow c start ls) ls s →
      Takes c start (ls ++ lines_of_commit s most) × Tied c (follow c start (ls ++ lines_of_commit s most)) (ls ++ lines_of_commit s most) (commit s most).0
  commit_tied most ls s t = commit_lines most (in_order (finals s)) ls s t (listed_finals s)

-- Sorted rows of messages: none is before one that stands in front of it.
use Rattle.std.proofs.Common.{◌≡◌, true, false, not, List, [], ◌∷◌, ◌++◌, refl, inl, inr, arith}
use Rattle.std.specs.List.{AllByRecursion}
use Rattle.std.proofs.ByRecursion.{All-append}
use Rattle.std.proofs.lemmas.Bool.{and_from, and_parts, cases_Bool, not_from_false, not-true}
use Rattle.rows.proofs.Sorted.{count_cons, count_insert, insert_sorted}
use Rattle.rows.specs.Order.{same}
use Rattle.rows.specs.Rows.{insert, none_before, sorted, without_one}
use Rattle.bus.specs.Order.{message_before, message_total}
use Rattle.bus.specs.declared.Message.{Message}
use Rattle.model.specs.Commit.{in_order}
use Rattle.model.proofs.Counts.{all_insert, all_left, all_right, all_without, how_many}

abbrev pub Sorted : List Message → Type 0
Sorted [] = Unit {0}
Sorted (m ∷ ms) = AllByRecursion (λ x. message_before x m ≡ false) ms × Sorted ms

-- what `sorted` tests
none_true : (m : Message) (ms : List Message) → AllByRecursion (λ x. message_before x m ≡ false) ms → none_before message_before m ms ≡ true
none_true m [] a = refl
none_true m (x ∷ xs) a = and_from _ _ (not_from_false _ a.0) (none_true m xs a.1)

true_none : (m : Message) (ms : List Message) → none_before message_before m ms ≡ true → AllByRecursion (λ x. message_before x m ≡ false) ms
true_none m [] h = tt
true_none m (x ∷ xs) h = let p = and_parts (not (message_before x m)) (none_before message_before m xs) h in (not-true _ p.0, true_none m xs p.1)

pub sorted_true : (ms : List Message) → Sorted ms → sorted message_before ms ≡ true
sorted_true [] s = refl
sorted_true (m ∷ ms) s = and_from _ _ (none_true m ms s.0) (sorted_true ms s.1)

pub true_sorted : (ms : List Message) → sorted message_before ms ≡ true → Sorted ms
true_sorted [] h = tt
true_sorted (m ∷ ms) h = let p = and_parts (none_before message_before m ms) (sorted message_before ms) h in (true_none m ms p.0, true_sorted ms p.1)

pub sorted_insert : (m : Message) (ms : List Message) → Sorted ms → Sorted (insert message_before m ms)
sorted_insert m ms s = true_sorted (insert message_before m ms) (insert_sorted message_total m ms (sorted_true ms s))

pub sorted_without : (m : Message) (ms : List Message) → Sorted ms → Sorted (without_one message_before m ms)
sorted_without m [] s = tt
sorted_without m (x ∷ xs) s = elim (cases_Bool (same message_before m x)) [
  | inl h ↦ rw h s.1
  | inr h ↦ rw h (all_without (λ y. message_before y x ≡ false) m xs s.0, sorted_without m xs s.1)
]

pub sorted_left : (xs ys : List Message) → Sorted (xs ++ ys) → Sorted xs
sorted_left [] ys s = tt
sorted_left (x ∷ xs) ys s = (all_left (λ y. message_before y x ≡ false) xs ys s.0, sorted_left xs ys s.1)

pub sorted_right : (xs ys : List Message) → Sorted (xs ++ ys) → Sorted ys
sorted_right [] ys s = s
sorted_right (x ∷ xs) ys s = sorted_right xs ys s.1

-- the same behind a front
pub sorted_insert_behind : (m : Message) (xs ys : List Message) → AllByRecursion (λ x. message_before m x ≡ false) xs → Sorted (xs ++ ys) → Sorted (xs ++ insert message_before m ys)
sorted_insert_behind m [] ys h s = sorted_insert m ys s
sorted_insert_behind m (x ∷ xs) ys h s = (
  All-append (λ y. message_before y x ≡ false) xs (insert message_before m ys) (all_left (λ y. message_before y x ≡ false) xs ys s.0)
      (all_insert (λ y. message_before y x ≡ false) m ys h.0 (all_right (λ y. message_before y x ≡ false) xs ys s.0)),
  sorted_insert_behind m xs ys h.1 s.1,
)

pub sorted_without_behind : (m : Message) (xs ys : List Message) → Sorted (xs ++ ys) → Sorted (xs ++ without_one message_before m ys)
sorted_without_behind m [] ys s = sorted_without m ys s
sorted_without_behind m (x ∷ xs) ys s = (
  All-append (λ y. message_before y x ≡ false) xs (without_one message_before m ys) (all_left (λ y. message_before y x ≡ false) xs ys s.0)
      (all_without (λ y. message_before y x ≡ false) m ys (all_right (λ y. message_before y x ≡ false) xs ys s.0)),
  sorted_without_behind m xs ys s.1,
)

-- what `in_order` makes
pub in_order_sorted : (ms : List Message) → Sorted (in_order ms)
in_order_sorted [] = tt
in_order_sorted (m ∷ ms) = sorted_insert m (in_order ms) (in_order_sorted ms)

pub count_in_order : (x : Message) (ms : List Message) → how_many x (in_order ms) ≡ how_many x ms
count_in_order x [] = refl
count_in_order x (m ∷ ms) = omega (arith, count_insert message_before x m (in_order ms), count_cons message_before x m ms, count_in_order x ms)

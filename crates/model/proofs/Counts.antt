-- How often a message stands in a list, and the least of a list, told by that.
use Rattle.std.proofs.Common.{◌≡◌, ℕ, zero, suc, ◌+◌, ◌<◌, ◌≤◌, Bool, true, false, cond, ◌⊎◌, List, [], ◌∷◌, ◌++◌, map, length, get_or, set, Some, None, Option, sym, refl, ap, ◌∙◌, subst, inl, inr, arith}
use Rattle.std.specs.List.{AllByRecursion}
use Rattle.std.proofs.ByRecursion.{All-append}
use Rattle.std.proofs.lemmas.Bool.{and_from, cases_Bool, cases_lt, false≢true, not_from_false, true≢false}
use Rattle.rows.proofs.Minimum.{is_least, least_told, none_before_of}
use Rattle.rows.proofs.Sorted.{count_cons}
use Rattle.rows.specs.Order.{same}
use Rattle.rows.specs.Rows.{count_of, insert, least, none_before, without_one}
use Rattle.rows.specs.Theorems.{Least, LeastTold}
use Rattle.bus.specs.Order.{message_before, message_total}
use Rattle.bus.specs.declared.Message.{Message}
use Rattle.model.specs.Commit.{filter}
use Rattle.model.specs.Deliver.{has}
use Rattle.model.specs.State.{flat}
use Rattle.model.proofs.Orders.{is_same, itself}

-- how often x stands in a list
abbrev pub how_many : Message → List Message → ℕ
how_many = count_of message_before

-- how often x is m
abbrev pub one : Message → Message → ℕ
one x m = cond (same message_before x m) 1 0

pub one_self : (m : Message) → one m m ≡ 1
one_self m = rw (itself m)

pub one_other : (x m : Message) → same message_before x m ≡ false → one x m ≡ 0
one_other x m h = rw h

pub count_without : (x m : Message) (ms : List Message) → has m ms ≡ true → how_many x (without_one message_before m ms) + one x m ≡ how_many x ms
count_without x m [] h = absurd (false≢true h)
count_without x m (y ∷ ys) h = elim (cases_Bool (same message_before m y)) [
  | inl e ↦ rw e (omega (arith, count_cons message_before x y ys, ap (one x) (is_same m y e)))
  | inr e ↦ rw e (omega (arith, count_cons message_before x y ys, count_cons message_before x y (without_one message_before m ys), count_without x m ys (rw e at h)))
]

-- to stand in a list
pub has_count : (m : Message) (ms : List Message) → 1 ≤ how_many m ms → has m ms ≡ true
has_count m [] h = absurd (omega arith)
has_count m (y ∷ ys) h = elim (cases_Bool (same message_before m y)) [
  | inl e ↦ rw e
  | inr e ↦ rw e (has_count m ys (rw e at h))
]

pub count_has : (m : Message) (ms : List Message) → has m ms ≡ true → 1 ≤ how_many m ms
count_has m [] h = absurd (false≢true h)
count_has m (y ∷ ys) h = elim (cases_Bool (same message_before m y)) [
  | inl e ↦ rw e (omega arith)
  | inr e ↦ rw e (count_has m ys (rw e at h))
]

pub none_has : (m : Message) (ms : List Message) → has m ms ≡ false → how_many m ms ≡ 0
none_has m ms h = elim (cases_lt 0 (how_many m ms)) [
  | inl k ↦ absurd (true≢false (sym (has_count m ms k) ∙ h))
  | inr k ↦ omega arith
]

pub none_empty : (ms : List Message) → ((x : Message) → how_many x ms ≡ 0) → ms ≡ []
none_empty [] h = refl
none_empty (m ∷ ms) h = absurd (omega (arith, h m, count_cons message_before m m ms, one_self m))

pub all_of : (P : Message → Type 0) (ms : List Message) (x : Message) → AllByRecursion P ms → 1 ≤ how_many x ms → P x
all_of P [] x a h = absurd (omega arith)
all_of P (m ∷ ms) x a h = elim (cases_Bool (same message_before x m)) [
  | inl e ↦ subst P (sym (is_same x m e)) a.0
  | inr e ↦ all_of P ms x a.1 (rw e at h)
]

pub none_of : (x : Message) (ms : List Message) → AllByRecursion (λ m. same message_before x m ≡ false) ms → how_many x ms ≡ 0
none_of x [] a = refl
none_of x (m ∷ ms) a = rw a.0 (none_of x ms a.1)

-- the least of a list, by counts
pub record Lowest (x : Message) (ms : List Message) : Type 0 where
  pub there : 1 ≤ how_many x ms
  pub first : (y : Message) → message_before y x ≡ true → how_many y ms ≡ 0

-- what `least` answers is the least
pub least_is : (ms : List Message) (x : Message) → least message_before ms ≡ Some x → Lowest x ms
least_is ms x h = record { there = l.stands; first = λ y k. none y k (cases_lt 0 (how_many y ms)) }
  where
    l : Least message_before x ms
    l = subst (λ (o : Option Message). LeastTold message_before o ms) h (least_told message_total ms)

    none : (y : Message) → message_before y x ≡ true → (0 < how_many y ms) ⊎ (how_many y ms ≤ 0) → how_many y ms ≡ 0
    none y k (inl c) = absurd (true≢false (sym k ∙ none_before_of message_total x y ms l.first (omega arith)))
    none y k (inr c) = omega arith

pub least_none : (ms : List Message) → least message_before ms ≡ None → ms ≡ []
least_none ms h = subst (λ (o : Option Message). LeastTold message_before o ms) h (least_told message_total ms)

-- the least is what `least` answers
pub is_lowest : (ms : List Message) (x : Message) → Lowest x ms → least message_before ms ≡ Some x
is_lowest ms x l = is_least message_total x ms (record { stands = l.there; first = none ms (λ y k. omega (arith, l.first y k)) })
  where
    none : (ys : List Message) → ((y : Message) → message_before y x ≡ true → how_many y ys ≤ 0) → none_before message_before x ys ≡ true
    none [] h = refl
    none (y ∷ ys) h = and_from _ _
        (not_from_false _ (elim (cases_Bool (message_before y x)) [
          | inl k ↦ absurd (omega (arith, h y k, count_cons message_before y y ys, one_self y))
          | inr k ↦ k
        ]))
        (none ys (λ z k. omega (arith, h z k, count_cons message_before z y ys)))

pub all_from : (P : Message → Type 0) (ms : List Message) → ((x : Message) → 1 ≤ how_many x ms → P x) → AllByRecursion P ms
all_from P [] h = tt
all_from P (m ∷ ms) h = (h m (omega (arith, count_cons message_before m m ms, one_self m)), all_from P ms (λ x k. h x (omega (arith, k, count_cons message_before x m ms))))

-- nothing of a list is before its least
pub least_upto : (ms : List Message) (x : Message) → Lowest x ms → AllByRecursion (λ m. message_before m x ≡ false) ms
least_upto ms x l = all_from (λ m. message_before m x ≡ false) ms λ m k.
    let go : (message_before m x ≡ true) ⊎ (message_before m x ≡ false) → message_before m x ≡ false = elim [ inl h ↦ absurd (omega (arith, k, l.first m h)) | inr h ↦ h ] in
    go (cases_Bool (message_before m x))

pub count_filter_yes : (f : Message → Bool) (x : Message) (ms : List Message) → f x ≡ true → how_many x (filter f ms) ≡ how_many x ms
count_filter_yes f x [] h = refl
count_filter_yes f x (m ∷ ms) h = elim (cases_Bool (same message_before x m)) [
  | inl e ↦ rw (sym (ap f (is_same x m e)) ∙ h, e) (omega (arith, count_filter_yes f x ms h))
  | inr e ↦ elim (cases_Bool (f m)) [
    | inl g ↦ rw (g, e) (count_filter_yes f x ms h)
    | inr g ↦ rw (g, e) (count_filter_yes f x ms h)
  ]
]

pub count_filter_no : (f : Message → Bool) (x : Message) (ms : List Message) → f x ≡ false → how_many x (filter f ms) ≡ 0
count_filter_no f x [] h = refl
count_filter_no f x (m ∷ ms) h = elim (cases_Bool (same message_before x m)) [
  | inl e ↦ rw (sym (ap f (is_same x m e)) ∙ h) (count_filter_no f x ms h)
  | inr e ↦ elim (cases_Bool (f m)) [
    | inl g ↦ rw (g, e) (count_filter_no f x ms h)
    | inr g ↦ rw g (count_filter_no f x ms h)
  ]
]

-- what holds of each element
pub all_insert : (P : Message → Type 0) (m : Message) (ms : List Message) → P m → AllByRecursion P ms → AllByRecursion P (insert message_before m ms)
all_insert P m [] p h = (p, tt)
all_insert P m (x ∷ xs) p h = elim (cases_Bool (message_before m x)) [
  | inl k ↦ rw k (p, h)
  | inr k ↦ rw k (h.0, all_insert P m xs p h.1)
]

pub all_without : (P : Message → Type 0) (m : Message) (ms : List Message) → AllByRecursion P ms → AllByRecursion P (without_one message_before m ms)
all_without P m [] h = tt
all_without P m (x ∷ xs) h = elim (cases_Bool (same message_before m x)) [
  | inl k ↦ rw k h.1
  | inr k ↦ rw k (h.0, all_without P m xs h.1)
]

module _ {A : Type 0} (P : A → Type 0) where
  pub all_left : (xs ys : List A) → AllByRecursion P (xs ++ ys) → AllByRecursion P xs
  all_left [] ys h = tt
  all_left (x ∷ xs) ys h = (h.0, all_left xs ys h.1)

  pub all_right : (xs ys : List A) → AllByRecursion P (xs ++ ys) → AllByRecursion P ys
  all_right [] ys h = h
  all_right (x ∷ xs) ys h = all_right xs ys h.1

  pub all_flat : {B : Type 0} (f : B → List A) (qs : List B) → AllByRecursion (λ q. AllByRecursion P (f q)) qs → AllByRecursion P (flat (map f qs))
  all_flat f [] h = tt
  all_flat f (q ∷ qs) h = All-append P (f q) (flat (map f qs)) h.0 (all_flat f qs h.1)

-- what an additive measure says of a list of lists one of which is changed
pub measure_set : {A B : Type 0} (w : List A → ℕ) → ((xs ys : List A) → w (xs ++ ys) ≡ w xs + w ys) →
    (f : B → List A) (qs : List B) (k : ℕ) (q d : B) → k < length qs →
    w (flat (map f (set qs k q))) + w (f (get_or qs k d)) ≡ w (flat (map f qs)) + w (f q)
measure_set w add f [] k q d h = absurd (omega arith)
measure_set w add f (x ∷ xs) zero q d h = omega (arith, add (f q) (flat (map f xs)), add (f x) (flat (map f xs)))
measure_set w add f (x ∷ xs) (suc k) q d h =
    omega (arith, add (f x) (flat (map f (set xs k q))), add (f x) (flat (map f xs)), measure_set w add f xs k q d (omega arith))

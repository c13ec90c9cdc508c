-- The worked case: an equal of the last message that stands.
use Rattle.std.proofs.Common.{◌≡◌, true, false, List, [], ◌∷◌, ◌++◌, length, take, sym, refl, ap, ◌∙◌, subst, inl, inr, arith}
use Rattle.std.specs.List.{AllByRecursion}
use Rattle.std.proofs.ByRecursion.{All-append}
use Rattle.std.proofs.lemmas.List.{append_assoc, drop_all, map-append, take_all}
use Rattle.std.proofs.lemmas.Bool.{cases_Bool, true≢false}
use Rattle.rows.proofs.Sorted.{count_cons}
use Rattle.rows.specs.Rows.{insert}
use Rattle.bus.specs.Order.{message_before}
use Rattle.bus.specs.declared.Message.{Message}
use Rattle.model.specs.Cases.{AnEqualOfTheLastStandingMessageBecomesOpen, StandsLast}
use Rattle.model.specs.Deliver.{arrive, has, not_after, undo, with_open}
use Rattle.model.specs.State.{Event, Queues}
use Rattle.model.specs.declared.item.Item.TheVariants.{Minus, Plus}
use Rattle.model.proofs.Orders.{decided, irreflexive, itself}
use Rattle.model.proofs.Counts.{all_right, has_count, one, one_self}
use Rattle.model.proofs.Sorted.{Sorted, sorted_right, true_sorted}
use Rattle.model.proofs.Tied.{debit}
use Rattle.model.proofs.Arrivals.{messages}

-- what stands in front of m in a sorted row is not after m
front_upto_last : (m : Message) (xs ys : List Message) → Sorted (xs ++ m ∷ ys) → AllByRecursion (λ x. message_before m x ≡ false) xs
front_upto_last m [] ys s = tt
front_upto_last m (x ∷ xs) ys s = ((all_right (λ y. message_before y x ≡ false) xs (m ∷ ys) s.0).0, front_upto_last m xs ys s.1)

all_not_after : (m : Message) (es : List Event) → AllByRecursion (λ x. message_before m x ≡ false) (messages es) → not_after m es ≡ length es
all_not_after m [] a = refl
all_not_after m (e ∷ es) a = rw a.0 (omega (arith, all_not_after m es a.1))

-- an insertion in front
first_inserted : (m : Message) (ms : List Message) → AllByRecursion (λ x. message_before x m ≡ false) ms → has m ms ≡ false → insert message_before m ms ≡ m ∷ ms
first_inserted m [] a h = refl
first_inserted m (x ∷ xs) a h = elim (cases_Bool (message_before m x)) [
  | inl k ↦ rw k
  | inr k ↦ absurd (true≢false (sym (has_count m (x ∷ xs) (omega (arith, count_cons message_before m x xs, ap (one m) (sym (decided m x k a.0)), one_self m))) ∙ h))
]

module _ (q : Queues) (e : Event) (l : StandsLast q e) where
  abbrev m : Message
  m = e.message

  row_is : debit q ≡ messages l.others ++ m ∷ q.open_ones
  row_is = ap (λ es. messages es ++ q.open_ones) l.last
      ∙ ap (λ ms. ms ++ q.open_ones) (map-append (λ (e : Event). e.message) l.others (e ∷ []))
      ∙ append_assoc (messages l.others) (m ∷ []) q.open_ones

  ordered : Sorted (messages l.others ++ m ∷ q.open_ones)
  ordered = subst Sorted row_is (true_sorted (debit q) l.in_order)

  stay : not_after m q.standing ≡ length q.standing
  stay = all_not_after m q.standing (rw (l.last, map-append (λ (e : Event). e.message) l.others (e ∷ []))
      (All-append (λ x. message_before m x ≡ false) (messages l.others) (m ∷ []) (front_upto_last m (messages l.others) q.open_ones ordered) (irreflexive m, tt)))

  opens : insert message_before m (undo (length q.standing) q).open_ones ≡ m ∷ q.open_ones
  opens = rw (drop_all (length q.standing) q.standing (omega arith))
      (first_inserted m q.open_ones (sorted_right (messages l.others) (m ∷ q.open_ones) ordered).0 l.not_open)

  all_stand : take (length q.standing) q.standing ≡ q.standing
  all_stand = take_all (length q.standing) q.standing (omega arith)

  plus : arrive (Plus m) q ≡ record { stay = length q.standing; needs_place = true; queues = with_open (m ∷ q.open_ones) q }
  plus = rw (l.not_early, stay)
      (λ i. record { stay = length q.standing; needs_place = true; queues = record { standing = all_stand i; open_ones = opens i; early = q.early; sent = q.sent } })

  minus : arrive (Minus m) (with_open (m ∷ q.open_ones) q) ≡ record { stay = length q.standing; needs_place = false; queues = q }
  minus = rw (itself m)

pub equal_becomes_open : AnEqualOfTheLastStandingMessageBecomesOpen
equal_becomes_open q e l = (plus q e l, minus q e l)

-- The machine led by the messages that it takes, and what one more stimulus leaves of that.
use Rattle.std.proofs.Common.{◌≡◌, ◌+◌, ◌≤◌, true, List, [], ◌∷◌, ◌++◌, length, Some, refl, ap, ◌∙◌, arith}
use Rattle.std.specs.List.{AllByRecursion}
use Rattle.rows.proofs.Sorted.{count_append}
use Rattle.rows.specs.Rows.{least, without_one}
use Rattle.bus.specs.Order.{message_before}
use Rattle.bus.specs.declared.Message.{Message}
use Rattle.sequential.specs.Sequential.{Machine, advance, sending, step, steps}
use Rattle.addressing.specs.Settings.{Setting}
use Rattle.model.proofs.Orders.{before_differs, transitive}
use Rattle.model.proofs.Counts.{Lowest, count_without, has_count, how_many, is_lowest, least_is, one, one_other}

abbrev pub follow : Setting → Machine → List Message → Machine
follow c m [] = m
follow c m (l ∷ ls) = follow c (advance c m l) ls

-- each is the least that is pending at its turn
abbrev pub Takes : Setting → Machine → List Message → Type 0
Takes c m [] = Unit {0}
Takes c m (l ∷ ls) = (least message_before m.pending ≡ Some l) × Takes c (advance c m l) ls

step_is : (c : Setting) (m : Machine) (l : Message) → least message_before m.pending ≡ Some l → step c m ≡ advance c m l
step_is c m l e = rw (e, step)

pub steps_follow : (c : Setting) (m : Machine) (ls : List Message) → Takes c m ls → steps c (length ls) m ≡ follow c m ls
steps_follow c m [] t = refl
steps_follow c m (l ∷ ls) t = ap (steps c (length ls)) (step_is c m l t.0) ∙ steps_follow c (advance c m l) ls t.1

pub follow_push : (c : Setting) (m : Machine) (ls : List Message) (l : Message) → follow c m (ls ++ (l ∷ [])) ≡ advance c (follow c m ls) l
follow_push c m [] l = refl
follow_push c m (x ∷ ls) l = follow_push c (advance c m x) ls l

pub takes_push : (c : Setting) (m : Machine) (ls : List Message) (l : Message) → Takes c m ls → least message_before (follow c m ls).pending ≡ Some l → Takes c m (ls ++ (l ∷ []))
takes_push c m [] l t h = (h, tt)
takes_push c m (x ∷ ls) l t h = (t.0, takes_push c (advance c m x) ls l t.1 h)

-- how often a message is pending after a step
pub count_advance : (c : Setting) (m : Machine) (l x : Message) → 1 ≤ how_many l m.pending →
    how_many x (advance c m l).pending + one x l ≡ how_many x m.pending + how_many x (sending c m l)
count_advance c m l x h = omega (arith, count_append message_before x (without_one message_before l m.pending) (sending c m l), count_without x l m.pending (has_count l m.pending h))

-- a machine with one more message pending
pub record Besides (s : Message) (m m' : Machine) : Type 0 where
  pub words_same : m'.words ≡ m.words
  pub sent_same : m'.sent ≡ m.sent
  pub log_same : m'.log ≡ m.log
  pub pending_more : (x : Message) → how_many x m'.pending ≡ how_many x m.pending + one x s

module _ (c : Setting) (s : Message) where
  takes_besides : (m m' : Machine) (l : Message) → Besides s m m' → message_before l s ≡ true → Lowest l m.pending → Lowest l m'.pending
  takes_besides m m' l b h k = record {
    there = omega (arith, k.there, b.pending_more l);
    first = λ y g. omega (arith, k.first y g, b.pending_more y, one_other y s (before_differs y s (transitive y l s g h)));
  }

  sending_same : (m m' : Machine) (l : Message) → Besides s m m' → sending c m' l ≡ sending c m l
  sending_same m m' l b = rw (b.words_same, b.sent_same)

  advance_besides : (m m' : Machine) (l : Message) → Besides s m m' → message_before l s ≡ true → Lowest l m.pending → Besides s (advance c m l) (advance c m' l)
  advance_besides m m' l b h k = record {
    words_same = rw b.words_same;
    sent_same = rw (b.words_same, b.sent_same);
    log_same = rw b.log_same;
    pending_more = λ x. omega (
      arith,
      count_advance c m l x k.there,
      count_advance c m' l x (takes_besides m m' l b h k).there,
      b.pending_more x,
      ap (how_many x) (sending_same m m' l b),
    );
  }

  pub follow_besides : (m m' : Machine) (ls : List Message) → Besides s m m' → AllByRecursion (λ l. message_before l s ≡ true) ls → Takes c m ls →
      Takes c m' ls × Besides s (follow c m ls) (follow c m' ls)
  follow_besides m m' [] b h t = (tt, b)
  follow_besides m m' (l ∷ ls) b h t =
      let k = least_is m.pending l t.0 in
      let r = follow_besides (advance c m l) (advance c m' l) ls (advance_besides m m' l b h.0 k) h.1 t.1 in
      ((is_lowest m'.pending l (takes_besides m m' l b h.0 k), r.0), r.1)

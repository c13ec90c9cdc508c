-- The laws of the order of messages: all that the other proofs use of it. Only this file looks into the key.
use Rattle.std.proofs.Common.{◌≡◌, ◌<◌, ◌≤◌, true, false, ◌⊎◌, sym, ◌∙◌, inl, inr, arith}
use Rattle.std.proofs.lemmas.Bool.{and_left, cases_lt, cases_order, eq-eqb, lt-ltb, ne_eqb, not_from_true, true≢false}
use Rattle.rows.proofs.Keys.{into_left, into_right}
use Rattle.rows.proofs.Sorted.{asymmetric, not_before, same_is, same_self}
use Rattle.rows.specs.Order.{same}
use Rattle.bus.specs.Order.{message_before, message_total}
use Rattle.bus.specs.declared.Message.{Message}

-- an earlier message comes first
pub later : (a b : Message) → a.time < b.time → message_before a b ≡ true
later a b h = rw (ne_eqb a.time b.time (λ e. omega arith)) (lt-ltb a.time b.time h)

-- at one time a lower source comes first, and of one source the lower number
by_source : (a b : Message) → a.time ≡ b.time → (a.source < b.source) ⊎ ((a.source ≡ b.source) × (a.number < b.number)) → message_before a b ≡ true
by_source a b e (inl l) = rw (eq-eqb a.time b.time e, ne_eqb a.source b.source (λ f. omega arith)) (lt-ltb a.source b.source l)
by_source a b e (inr l) =
    rw (eq-eqb a.time b.time e, eq-eqb a.source b.source l.0, ne_eqb a.number b.number (λ f. omega (arith, l.1)))
    (lt-ltb a.number b.number l.1)

-- a message known before a stimulus is offered is before that stimulus
pub before_stimulus : (a b : Message) → a.time ≤ b.time → (a.source < b.source) ⊎ ((a.source ≡ b.source) × (a.number < b.number)) → message_before a b ≡ true
before_stimulus a b h k = elim (cases_order a.time b.time) [
  | inl e ↦ by_source a b e k
  | inr (inl l) ↦ later a b l
  | inr (inr g) ↦ absurd (omega arith)
]

pub time_upto : (a b : Message) → message_before b a ≡ false → a.time ≤ b.time
time_upto a b h = elim (cases_lt b.time a.time) [
  | inl g ↦ absurd (true≢false (sym (later b a g) ∙ h))
  | inr g ↦ g
]

-- the laws of a total order, for messages
pub irreflexive : (a : Message) → message_before a a ≡ false
irreflexive = message_total.irreflexive

pub transitive : (a b c : Message) → message_before a b ≡ true → message_before b c ≡ true → message_before a c ≡ true
transitive = message_total.transitive

pub decided : (a b : Message) → message_before a b ≡ false → message_before b a ≡ false → a ≡ b
decided = message_total.decided

pub comes_after : (a b : Message) → message_before a b ≡ true → message_before b a ≡ false
comes_after = asymmetric message_total

-- a < b, b ≤ c
pub before_upto : (a b c : Message) → message_before a b ≡ true → message_before c b ≡ false → message_before a c ≡ true
before_upto = into_right message_total

-- a ≤ b, b < c
pub upto_before : (a b c : Message) → message_before b a ≡ false → message_before b c ≡ true → message_before a c ≡ true
upto_before = into_left message_total

-- a ≤ b, b ≤ c
pub upto_upto : (a b c : Message) → message_before b a ≡ false → message_before c b ≡ false → message_before c a ≡ false
upto_upto = not_before message_total

pub itself : (a : Message) → same message_before a a ≡ true
itself = same_self message_total

pub is_same : (a b : Message) → same message_before a b ≡ true → a ≡ b
is_same = same_is message_total

pub before_differs : (a b : Message) → message_before a b ≡ true → same message_before a b ≡ false
before_differs a b h = and_left _ _ (not_from_true _ h)

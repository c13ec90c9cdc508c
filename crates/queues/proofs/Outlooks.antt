-- The least of what is outstanding.
use Rattle.std.proofs.Common.{◌≡◌, List, [], ◌∷◌, ◌++◌, Some, None, Option, sym, refl, ap, ◌∙◌, inl, inr}
use Rattle.std.proofs.lemmas.Bool.{cases_Bool, true≢false}
use Rattle.rows.specs.Rows.{nearer, lesser, least}
use Rattle.rows.proofs.Keys.{into_right}
use Rattle.bus.specs.declared.Message.{Message}
use Rattle.bus.specs.Order.{message_before, message_total}
use Rattle.queues.specs.Outlooks.{least_onto}

pub onto_append : (xs ys : List Message) (rest : Option Message) → least_onto (xs ++ ys) rest ≡ least_onto xs (least_onto ys rest)
onto_append [] ys rest = refl
onto_append (x ∷ xs) ys rest = ap (nearer message_before x) (onto_append xs ys rest)

pub least_append : (xs ys : List Message) → least message_before (xs ++ ys) ≡ least_onto xs (least message_before ys)
least_append [] ys = refl
least_append (x ∷ xs) ys = ap (nearer message_before x) (least_append xs ys)

-- of three, it does not matter which two are compared first
nearer_lesser : (x : Message) (o rest : Option Message) → lesser message_before (nearer message_before x o) rest ≡ nearer message_before x (lesser message_before o rest)
nearer_lesser x None rest = refl
nearer_lesser x (Some y) None = refl
nearer_lesser x (Some y) (Some z) = elim (cases_Bool (message_before y x)) [
  | inl h ↦ elim (cases_Bool (message_before z y)) [
    | inl k ↦ rw (h, k, message_total.transitive z y x k h) refl
    | inr k ↦ rw (h, k, h) refl
  ]
  | inr h ↦ elim (cases_Bool (message_before z y)) [
    | inl k ↦ rw (h, k) refl
    | inr k ↦ elim (cases_Bool (message_before z x)) [
      | inl l ↦ absurd (true≢false (sym (into_right message_total z x y l h) ∙ k))
      | inr l ↦ rw (h, k, l, h) refl
    ]
  ]
]

-- the lesser of a row's least and of the rest
pub lesser_least : (xs : List Message) (rest : Option Message) → lesser message_before (least message_before xs) rest ≡ least_onto xs rest
lesser_least [] rest = refl
lesser_least (x ∷ xs) rest = nearer_lesser x (least message_before xs) rest ∙ ap (nearer message_before x) (lesser_least xs rest)

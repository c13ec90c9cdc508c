-- Items in transit: the messages on their way (`plus_in`), and those taken back (`minus_in`).
use Rattle.std.proofs.Common.{◌≡◌, ◌+◌, List, [], ◌∷◌, ◌++◌, map, sym, refl, ap, ◌∙◌, ap₂}
use Rattle.std.proofs.lemmas.List.{append_assoc, map-append}
use Rattle.rows.proofs.Sorted.{count_append}
use Rattle.bus.specs.Order.{message_before}
use Rattle.bus.specs.declared.Message.{Message}
use Rattle.model.specs.State.{flat, inside}
use Rattle.model.specs.declared.item.Item.{Item}
use Rattle.model.proofs.Counts.{how_many}

pub flat_append : {A : Type 0} (xs ys : List (List A)) → flat (xs ++ ys) ≡ flat xs ++ flat ys
flat_append [] ys = refl
flat_append (x ∷ xs) ys = ap (λ l. x ++ l) (flat_append xs ys) ∙ sym (append_assoc x (flat xs) (flat ys))

-- all messages of some items of one sign, or none of them
pub each_in : (sign : Item → List Message) (make : Message → Item) → ((x : Message) → sign (make x) ≡ x ∷ []) → (xs : List Message) → flat (map sign (map make xs)) ≡ xs
each_in sign make h [] = refl
each_in sign make h (x ∷ xs) = ap₂ (λ l r. l ++ r) (h x) (each_in sign make h xs)

pub none_in : (sign : Item → List Message) (make : Message → Item) → ((x : Message) → sign (make x) ≡ []) → (xs : List Message) → flat (map sign (map make xs)) ≡ []
none_in sign make h [] = refl
none_in sign make h (x ∷ xs) = ap₂ (λ l r. l ++ r) (h x) (none_in sign make h xs)

pub inside_made : (make : Message → Item) → ((x : Message) → inside (make x) ≡ x) → (xs : List Message) → map inside (map make xs) ≡ xs
inside_made make h [] = refl
inside_made make h (x ∷ xs) = ap₂ (λ y l. y ∷ l) (h x) (inside_made make h xs)

pub count_both : (x : Message) (sign : Item → List Message) (as' bs : List Item) →
    how_many x (flat (map sign (as' ++ bs))) ≡ how_many x (flat (map sign as')) + how_many x (flat (map sign bs))
count_both x sign as' bs =
    ap (λ l. how_many x (flat l)) (map-append sign as' bs) ∙ ap (how_many x) (flat_append (map sign as') (map sign bs))
    ∙ count_append message_before x (flat (map sign as')) (flat (map sign bs))

-- A fold from the last item to the first, and functions that recur from the front. Assumes nothing.
use Rattle.std.proofs.Common.{◌≡◌, List, [], ◌∷◌, reverse, sym, ap, ◌∙◌}
use Rattle.std.specs.List.{fold}
use Rattle.std.proofs.lemmas.Grind.{reverse_onto}
use Rattle.std.proofs.lemmas.List.Sums.{fold-append}

-- what `rfold` gives is F, where F of a list is made of its first item and of F of the others
pub folded_back : {A B : Type 0} (F : List A → B) (f : B → A → B) (b : B) → F [] ≡ b → ((x : A) (xs : List A) → F (x ∷ xs) ≡ f (F xs) x) → (xs : List A) → fold f b (reverse xs) ≡ F xs
folded_back F f b none more [] = sym none
folded_back F f b none more (x ∷ xs) = ap (fold f b) (reverse_onto xs x []) ∙ fold-append f b (reverse xs) (x ∷ []) ∙ ap (λ r. f r x) (folded_back F f b none more xs) ∙ sym (more x xs)

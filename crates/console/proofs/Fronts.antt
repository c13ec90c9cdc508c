-- Reading with a limit, to the end, gives the front of what the reader has left.
use Rattle.std.proofs.Common.{◌≡◌, ℕ, List, [], ◌++◌, take, Some, None, Option, IfSome, ap, ◌∙◌, subst}
use Rattle.std.specs.Option.{option_map}

front_of : (known : Option (List ℕ)) (limit most : ℕ) (old new : List ℕ) → limit ≡ most → old ≡ [] → IfSome (option_map (take limit) known) (λ xs. new ≡ old ++ xs) → IfSome known (λ bytes. new ≡ take most bytes)
front_of None limit most old new same none read = tt
front_of (Some bytes) limit most old new same none read = read ∙ ap (λ l. l ++ take limit bytes) none ∙ ap (λ n. take n bytes) same

pub front_read : {R : Type 0} (remaining : R → Option (List ℕ)) (input taken : R) (limit most : ℕ) (old new : List ℕ) → taken ≡ input → limit ≡ most → old ≡ [] → IfSome (option_map (take limit) (remaining taken)) (λ xs. new ≡ old ++ xs) → IfSome (remaining input) (λ bytes. new ≡ take most bytes)
front_read remaining input taken limit most old new inner same none read =
    front_of (remaining input) limit most old new same none (subst (λ r. IfSome (option_map (take limit) (remaining r)) (λ xs. new ≡ old ++ xs)) inner read)

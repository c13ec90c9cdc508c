-- Lists that are cut to so many places as they grow.
use Rattle.std.proofs.Common.{◌≡◌, ℕ, zero, suc, ◌+◌, ◌<◌, List, [], ◌∷◌, ◌++◌, map, length, get_or, take, refl, ap, ◌∙◌, append_assoc}
use Rattle.std.proofs.lemmas.List.{take_more, map_push}
use Rattle.bus.specs.declared.Message.{Message}
use Rattle.bus.specs.declared.Sent.{Sent}
use Rattle.model.specs.declared.item.Item.TheVariants.{Minus}
use Rattle.queues.specs.Memory.{messages_of}

-- what was cut before is cut at the end anyway
pub cut_once : {X : Type 0} (n : ℕ) (xs ys : List X) → take n (take n xs ++ ys) ≡ take n (xs ++ ys)
cut_once zero xs ys = refl
cut_once (suc n) [] ys = refl
cut_once (suc n) (x ∷ xs) ys = ap (λ zs. x ∷ zs) (cut_once n xs ys)

-- one more behind what was cut
pub cut_more : {X : Type 0} (n : ℕ) (xs ys : List X) (z : X) (cut : List X) → cut ≡ take n (xs ++ ys) → take n (cut ++ z ∷ []) ≡ take n (xs ++ (ys ++ z ∷ []))
cut_more n xs ys z cut e = ap (λ zs. take n (zs ++ z ∷ [])) e ∙ cut_once n (xs ++ ys) (z ∷ []) ∙ ap (take n) (append_assoc xs ys (z ∷ []))

-- one more sent record
pub minus_more : (xs : List Sent) (i : ℕ) (d : Sent) → i < length xs → map Minus (messages_of (take (i + 1) xs)) ≡ map Minus (messages_of (take i xs)) ++ (Minus (get_or xs i d).message ∷ [])
minus_more xs i d h =
    let f : Sent → Message = λ s. s.message in
    ap (λ zs. map Minus (messages_of zs)) (take_more xs i d h) ∙ ap (map Minus) (map_push f (take i xs) (get_or xs i d)) ∙ map_push Minus (messages_of (take i xs)) (get_or xs i d).message

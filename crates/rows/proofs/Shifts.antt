-- What the shifts make of a memory: a gap opened for a record, and gaps closed. Assumes nothing.
use Rattle.std.proofs.Common.{◌≡◌, ℕ, ◌+◌, ◌-◌, ◌<◌, ◌≤◌, List, [], ◌∷◌, ◌++◌, length, get_or, take, drop, set, ap, ◌∙◌, append_assoc, arith}
use lib.Seq.{paste}
use Rattle.std.proofs.lemmas.List.{set_at, take_more, length-take-le}
use Rattle.std.proofs.lemmas.Slice.{between_is}
use Rattle.rows.specs.Rows.{opened, closed}

-- a record written over the last of a front part
set_last : {X : Type 0} (front part rest : List X) (z x : X) (n : ℕ) → length front ≡ n → set (((front ++ z ∷ []) ++ part) ++ rest) n x ≡ front ++ (x ∷ (part ++ rest))
set_last front part rest z x n e =
    ap (λ zs. set (zs ++ rest) n x) (append_assoc front (z ∷ []) part)
    ∙ ap (λ zs. set zs n x) (append_assoc front (z ∷ part) rest)
    ∙ set_at front z (part ++ rest) x n e

module _ {X : Type 0} (memory : List X) (at end : ℕ) (ordered : at ≤ end) where
  pub open_is : (x : X) → end < length memory → set (paste memory (at + 1) (drop at memory) (end - at)) at x ≡ opened memory at end x
  open_is x room =
      let part = take (end - at) (drop at memory) in
      let rest = drop (at + 1 + (end - at)) memory in
      ap (λ zs. set ((zs ++ part) ++ rest) at x) (take_more memory at x (omega arith))
      ∙ set_last (take at memory) part rest (get_or memory at x) x at (length-take-le at memory (omega arith))
      ∙ ap (λ zs. take at memory ++ (x ∷ (zs ++ rest))) (between_is memory at end)
      ∙ ap (λ k. take at memory ++ (x ∷ (drop at (take end memory) ++ drop k memory))) (omega arith)

module _ {X : Type 0} (memory : List X) (at gone end : ℕ) (fits : at + gone ≤ end) where
  pub close_is : paste memory at (drop (at + gone) memory) (end - (at + gone)) ≡ closed memory at gone end
  close_is =
      append_assoc (take at memory) (take (end - (at + gone)) (drop (at + gone) memory)) (drop (at + (end - (at + gone))) memory)
      ∙ ap (λ zs. take at memory ++ (zs ++ drop (at + (end - (at + gone))) memory)) (between_is memory (at + gone) end)
      ∙ ap (λ k. take at memory ++ (drop (at + gone) (take end memory) ++ drop k memory)) (omega arith)

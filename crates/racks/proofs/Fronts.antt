-- Rows in front of a memory, one after the other. Assumes nothing.
use Rattle.std.proofs.Common.{◌≡◌, ℕ, ◌+◌, ◌-◌, ◌<◌, ◌≤◌, List, [], ◌∷◌, ◌++◌, length, get_or, drop, set, sym, refl, ap, ◌∙◌, append_assoc, arith}
use Rattle.std.proofs.lemmas.List.{drop-drop, drop_at, drop_more, set_at, length_push}
use Rattle.rows.specs.Rows.{in_front}

module _ {X : Type 0} where
  -- what was in front before does not matter where it was no longer
  pub front_over : (xs ys memory : List X) → length ys ≤ length xs → in_front xs (in_front ys memory) ≡ in_front xs memory
  front_over xs ys memory h =
      let n = length ys in
      let more = length xs - length ys in
      let e : length xs ≡ n + more = omega arith in
      ap (λ k. xs ++ drop k (in_front ys memory)) e
      ∙ ap (λ zs. xs ++ zs) (sym (drop-drop more n (in_front ys memory)) ∙ ap (drop more) (drop_at ys (drop n memory) n refl) ∙ drop-drop more n memory)
      ∙ ap (λ k. xs ++ drop k memory) (sym e)

  -- one record more
  pub front_push : (xs memory : List X) (n : ℕ) (x : X) → length xs ≡ n → n < length memory → set (in_front xs memory) n x ≡ in_front (xs ++ x ∷ []) memory
  front_push xs memory n x e h =
      ap (λ k. set (xs ++ drop k memory) n x) e
      ∙ ap (λ zs. set (xs ++ zs) n x) (drop_more memory n x h)
      ∙ set_at xs (get_or memory n x) (drop (n + 1) memory) x n e
      ∙ sym (append_assoc xs (x ∷ []) (drop (n + 1) memory))
      ∙ ap (λ k. (xs ++ x ∷ []) ++ drop k memory) (sym (length_push xs x ∙ ap (λ k. k + 1) e))

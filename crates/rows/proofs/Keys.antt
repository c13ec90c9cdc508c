-- An order by keys is total where no two records have one key. Assumes nothing.
use Rattle.std.proofs.Common.{◌≡◌, ℕ, Bool, true, false, not, ◌&&◌, List, [], ◌∷◌, sym, refl, ap, ◌∙◌, ⊎_elim, arith}
use Rattle.std.proofs.lemmas.Bool.{true≢false, false≢true, both_ways, cases_Bool, not-true, not_from_false, and_parts, and_from, and_right, or_parts, or_from, or_cases, or_left, or_right}
use Rattle.std.proofs.lemmas.Bool.Decides.{nat_tests}
use Rattle.rows.specs.Order.{Total, lexical, by_key, first_then}

pub lexical_irreflexive : (xs : List ℕ) → lexical xs xs ≡ false
lexical_irreflexive [] = refl
lexical_irreflexive (x ∷ xs) = let rest = lexical_irreflexive xs in grind (arith, nat_tests)

pub lexical_transitive : (xs ys zs : List ℕ) → lexical xs ys ≡ true → lexical ys zs ≡ true → lexical xs zs ≡ true
lexical_transitive [] [] zs h k = absurd (false≢true h)
lexical_transitive [] (y ∷ ys) [] h k = absurd (false≢true k)
lexical_transitive [] (y ∷ ys) (z ∷ zs) h k = refl
lexical_transitive (x ∷ xs) [] zs h k = absurd (false≢true h)
lexical_transitive (x ∷ xs) (y ∷ ys) [] h k = absurd (false≢true k)
lexical_transitive (x ∷ xs) (y ∷ ys) (z ∷ zs) h k = let rest = lexical_transitive xs ys zs in grind (arith, nat_tests)

pub lexical_decided : (xs ys : List ℕ) → lexical xs ys ≡ false → lexical ys xs ≡ false → xs ≡ ys
lexical_decided [] [] h k = refl
lexical_decided [] (y ∷ ys) h k = absurd (true≢false h)
lexical_decided (x ∷ xs) [] h k = absurd (true≢false k)
lexical_decided (x ∷ xs) (y ∷ ys) h k = let rest = lexical_decided xs ys in grind (arith, nat_tests)

-- the order of a key that tells the records apart
pub total_by_key : {X : Type 0} (key : X → List ℕ) → ((x y : X) → key x ≡ key y → x ≡ y) → Total (by_key key)
total_by_key key apart = record {
  irreflexive = λ x. lexical_irreflexive (key x);
  transitive = λ x y z. lexical_transitive (key x) (key y) (key z);
  decided = λ x y h k. apart x y (lexical_decided (key x) (key y) h k);
}

-- ---- one order after another

module _ {X : Type 0} {before : X → X → Bool} (total : Total before) where
  -- a comes before b, and c does not: a comes before c
  pub into_right : (a b c : X) → before a b ≡ true → before c b ≡ false → before a c ≡ true
  into_right a b c h k =
      ⊎_elim (λ t. t) (λ n.
      ⊎_elim
      (λ t. absurd (both_ways (before c b) k (total.transitive c a b t h)))
      (λ m. absurd (both_ways (before c b) k (ap (λ w. before w b) (sym (total.decided a c n m)) ∙ h)))
      (cases_Bool (before c a)))
      (cases_Bool (before a c))

  -- b does not come before a, and comes before c: a comes before c
  pub into_left : (a b c : X) → before b a ≡ false → before b c ≡ true → before a c ≡ true
  into_left a b c k h =
      ⊎_elim (λ t. t) (λ n.
      ⊎_elim
      (λ t. absurd (both_ways (before b a) k (total.transitive b c a h t)))
      (λ m. absurd (both_ways (before b a) k (ap (before b) (total.decided a c n m) ∙ h)))
      (cases_Bool (before c a)))
      (cases_Bool (before a c))

second : (a b : Bool) → a ≡ false → (not a && b) ≡ false → b ≡ false
second true b h k = absurd (true≢false h)
second false b h k = k

module _ {X A B : Type 0} (f : X → A) {p : A → A → Bool} (op : Total p) (g : X → B) {q : B → B → Bool} (oq : Total q) (apart : (x y : X) → f x ≡ f y → g x ≡ g y → x ≡ y) where
  goes_on : (x y z : X) → first_then f p g q x y ≡ true → first_then f p g q y z ≡ true → first_then f p g q x z ≡ true
  goes_on x y z h k =
      ⊎_elim
      (λ a.
      ⊎_elim
      (λ b. or_left _ _ (op.transitive (f x) (f y) (f z) a b))
      (λ b. or_left _ _ (into_right op (f x) (f y) (f z) a (not-true _ (and_parts _ _ b).0)))
      (or_cases (p (f y) (f z)) (not (p (f z) (f y)) && q (g y) (g z)) k))
      (λ a.
      let yx = not-true _ (and_parts _ _ a).0 in
      ⊎_elim
      (λ b. or_left _ _ (into_left op (f x) (f y) (f z) yx b))
      (λ b.
      let zy = not-true _ (and_parts _ _ b).0 in
      let zx : p (f z) (f x) ≡ false =
      ⊎_elim (λ t. absurd (both_ways (p (f z) (f y)) zy (into_right op (f z) (f x) (f y) t yx))) (λ n. n) (cases_Bool (p (f z) (f x))) in
      or_right _ _ (and_from _ _ (not_from_false _ zx) (oq.transitive (g x) (g y) (g z) (and_parts _ _ a).1 (and_parts _ _ b).1)))
      (or_cases (p (f y) (f z)) (not (p (f z) (f y)) && q (g y) (g z)) k))
      (or_cases (p (f x) (f y)) (not (p (f y) (f x)) && q (g x) (g y)) h)

  decides : (x y : X) → first_then f p g q x y ≡ false → first_then f p g q y x ≡ false → x ≡ y
  decides x y h k =
      let a = or_parts (p (f x) (f y)) (not (p (f y) (f x)) && q (g x) (g y)) h in
      let b = or_parts (p (f y) (f x)) (not (p (f x) (f y)) && q (g y) (g x)) k in
      apart x y (op.decided (f x) (f y) a.0 b.0) (oq.decided (g x) (g y) (second _ _ b.0 a.1) (second _ _ a.0 b.1))

  pub total_first_then : Total (first_then f p g q)
  total_first_then = record {
    irreflexive = λ x. or_from _ _ (op.irreflexive (f x)) (and_right _ _ (oq.irreflexive (g x)));
    transitive = goes_on;
    decided = decides;
  }

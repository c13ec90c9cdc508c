-- For a struct that owns a memory of `cap` places and a count: what `put` and `cut` leave as its row. Assumes nothing.
use Rattle.std.proofs.Common.{◌≡◌, ℕ, ◌+◌, ◌<◌, ◌≤◌, Bool, true, List, length, take, drop, Ok, Err, sym, ap, ◌∙◌, ⊎_elim, arith, length-take}
use Rattle.std.proofs.lemmas.List.{take_at, take-append-le}
use Rattle.std.proofs.lemmas.Bool.{lt-ltb, le-ltb, cond-true, cond-false, cases_lt}
use Rattle.rows.specs.declared.refusal.Refusal.TheVariants.{Full}
use Rattle.rows.specs.Rows.{insert, in_front, has_room, put_answer, put_memory}
use Rattle.rows.proofs.Laws.{take_own, length_insert}
use Rattle.rows.proofs.Memory.{in_front_own}

-- the row that was laid in front is the row
pub take_in_front : {X : Type 0} (row memory : List X) (n : ℕ) → length row ≡ n → take n (in_front row memory) ≡ row
take_in_front row memory n e = take_at row (drop (length row) memory) n e

-- what `cut` answers is the length of the row that is left
pub take_cut : {X : Type 0} (place n : ℕ) (memory : List X) → take (length (take place (take n memory))) memory ≡ take place (take n memory)
take_cut place n memory =
    let row = take n memory in
    let k = length (take place row) in
    let le : k ≤ length row = simp length-take (omega arith) in
    ap (λ zs. take k zs) (sym (in_front_own n memory)) ∙ take-append-le k row (drop (length row) memory) le ∙ take_own place row

module _ {X : Type 0} (before : X → X → Bool) (memory : List X) (n cap : ℕ) (x : X) (after : List X) (v : ℕ) (places : length memory ≡ cap) (answer : Ok v ≡ put_answer memory n) (put : after ≡ put_memory before memory n x) where
  -- `put` placed the record, so there was room
  pub had_room : n < cap
  had_room =
      ⊎_elim (λ (h : n < cap). h) (λ (h : cap ≤ n).
      let len : length (take n memory) ≡ cap = simp length-take (omega arith) in
      let err : Ok v ≡ Err Full = answer ∙ cond-false _ _ _ (le-ltb (length (take n memory)) (length memory) (omega arith)) in
      let z : ◌≡◌ {A = ℕ} 0 1 = cc in
      absurd (omega arith))
      (cases_lt n cap)

  len : length (take n memory) ≡ n
  len = let h = had_room in simp length-take (omega arith)

  roomy : has_room memory n ≡ true
  roomy = let h = had_room in lt-ltb (length (take n memory)) (length memory) (omega (arith, len))

  pub put_count : v ≡ n + 1
  put_count =
      let ok : Ok v ≡ Ok (length (take n memory) + 1) = answer ∙ cond-true _ _ _ roomy in
      let inner : v ≡ length (take n memory) + 1 = cc in
      omega (arith, len)

  pub put_memory_is : after ≡ in_front (insert before x (take n memory)) memory
  put_memory_is = put ∙ cond-true _ _ _ roomy

  pub put_row : take v after ≡ insert before x (take n memory)
  put_row = ap (λ zs. take v zs) put_memory_is ∙ take_in_front (insert before x (take n memory)) memory v (let c = put_count in omega (arith, length_insert before x (take n memory), len))

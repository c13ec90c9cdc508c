-- What the inner writes make of the row in front of a memory. Assumes nothing.
use Rattle.std.proofs.Common.{◌≡◌, ℕ, ◌+◌, ◌-◌, ◌<◌, ◌≤◌, min, Bool, true, List, ◌∷◌, ◌++◌, length, take, drop, Ok, Err, sym, ap, ◌∙◌, ap₂, ⊎_elim, append_assoc, arith, length-append, length-drop, length-take}
use Rattle.std.proofs.lemmas.List.{take-take, take-append-drop, take_all, drop_all, append-nil}
use Rattle.std.proofs.lemmas.Bool.{lt-ltb, cond-true, cases_lt}
use Rattle.rows.specs.declared.refusal.Refusal.TheVariants.{Full}
use Rattle.rows.specs.Rows.{insert, place_of, in_front, without, opened, closed, has_room, put_answer, put_memory}
use Rattle.rows.proofs.Laws.{take_own, insert_at, place_within, length_insert}

-- dropping more than there is
pub drop_min : {X : Type 0} (gone most : ℕ) (row : List X) → most ≡ min gone (length row) → drop most row ≡ drop gone row
drop_min gone most row e =
    ⊎_elim
    (λ (lt : gone < length row). ap (λ k. drop k row) (omega arith))
    (λ (le : length row ≤ gone). drop_all most row (omega arith) ∙ sym (drop_all gone row le))
    (cases_lt gone (length row))

-- a row that is left as it is leaves the memory
pub in_front_own : {X : Type 0} (n : ℕ) (memory : List X) → in_front (take n memory) memory ≡ memory
in_front_own n memory =
    ap (λ zs. zs ++ drop (length (take n memory)) memory) (sym (take_own n memory)) ∙ take-append-drop (length (take n memory)) memory

pub without_past : {X : Type 0} (place : ℕ) (row : List X) → length row ≤ place → without place row ≡ row
without_past place row past =
    ap (λ zs. zs ++ drop (place + 1) row) (take_all place row past) ∙ ap (λ zs. row ++ zs) (drop_all (place + 1) row (omega arith)) ∙ append-nil row

module _ {X : Type 0} (n : ℕ) (memory : List X) where
  front : (at : ℕ) → at ≤ length (take n memory) → take at (take n memory) ≡ take at memory
  front at le = ap (λ zs. take at zs) (sym (take_own n memory)) ∙ take-take at (length (take n memory)) memory le

  pub opened_row : (before : X → X → Bool) (x : X) → opened memory (place_of before x (take n memory)) (length (take n memory)) x ≡ in_front (insert before x (take n memory)) memory
  opened_row before x =
      let row = take n memory in
      let p = place_of before x row in
      let tail = drop (length row + 1) memory in
      ap (λ zs. zs ++ (x ∷ (drop p (take (length row) memory) ++ tail))) (sym (front p (place_within before x row)))
      ∙ ap (λ zs. take p row ++ (x ∷ (drop p zs ++ tail))) (take_own n memory)
      ∙ sym (append_assoc (take p row) (x ∷ drop p row) tail)
      ∙ ap (λ zs. zs ++ tail) (sym (insert_at before x row))
      ∙ ap (λ k. insert before x row ++ drop k memory) (sym (length_insert before x row))

  pub closed_row : (at gone : ℕ) → at + gone ≤ length (take n memory) → closed memory at gone (length (take n memory)) ≡ in_front (take at (take n memory) ++ drop (at + gone) (take n memory)) memory
  closed_row at gone fits =
      let row = take n memory in
      let tail = drop (length row - gone) memory in
      let len : length row - gone ≡ length (take at row ++ drop (at + gone) row) = simp (length-append, length-take at row, length-drop (at + gone) row) (omega arith) in
      ap (λ zs. zs ++ (drop (at + gone) (take (length row) memory) ++ tail)) (sym (front at (omega arith)))
      ∙ ap (λ zs. take at row ++ (drop (at + gone) zs ++ tail)) (take_own n memory)
      ∙ sym (append_assoc (take at row) (drop (at + gone) row) tail)
      ∙ ap (λ k. (take at row ++ drop (at + gone) row) ++ drop k memory) len

  -- ---- what `put`, `shed` and `remove` leave, by the numbers that they find

  roomy : (end : ℕ) → end ≡ length (take n memory) → end < length memory → has_room memory n ≡ true
  roomy end e room = lt-ltb (length (take n memory)) (length memory) (omega arith)

  pub put_is : (before : X → X → Bool) (x : X) (at end : ℕ) → at ≡ place_of before x (take n memory) → end ≡ length (take n memory) → end < length memory → opened memory at end x ≡ put_memory before memory n x
  put_is before x at end p e room =
      ap₂ (λ a b. opened memory a b x) p e ∙ opened_row before x ∙ sym (cond-true (has_room memory n) (in_front (insert before x (take n memory)) memory) memory (roomy end e room))

  pub put_answers : (end : ℕ) → end ≡ length (take n memory) → end < length memory → Ok (end + 1) ≡ put_answer memory n
  put_answers end e room =
      ap (λ k. Ok (k + 1)) e ∙ sym (cond-true (has_room memory n) (Ok (length (take n memory) + 1)) (Err Full) (roomy end e room))

  pub shed_is : (gone most end : ℕ) → end ≡ length (take n memory) → most ≡ min gone end → closed memory 0 most end ≡ in_front (drop gone (take n memory)) memory
  shed_is gone most end e m =
      let row = take n memory in
      let same : drop (0 + most) row ≡ drop gone row = drop_min gone (0 + most) row (omega arith) in
      ap (λ k. closed memory 0 most k) e ∙ closed_row 0 most (omega arith) ∙ ap (λ zs. in_front zs memory) same

  pub remove_is : (place end : ℕ) → end ≡ length (take n memory) → place < end → closed memory place 1 end ≡ in_front (without place (take n memory)) memory
  remove_is place end e lt = ap (λ k. closed memory place 1 k) e ∙ closed_row place 1 (omega arith)

pub length_without : {X : Type 0} (place : ℕ) (row : List X) → place < length row → length (without place row) ≡ length row - 1
length_without place row lt = simp (length-append, length-take place row, length-drop (place + 1) row) (omega arith)

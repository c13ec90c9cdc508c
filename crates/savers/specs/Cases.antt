-- The definitions of a row, case by case: what each call leaves and answers, of a row of h + 1 quadruples.
use Rattle.std.specs.Prelude.{◌≡◌, ℕ, ◌+◌, ◌<◌, ◌≤◌, true, false, [], ◌∷◌, ◌++◌, length, get_or, take, drop, Ok, Err, slice_index_or}
use Rattle.std.proofs.Common.{ap, ◌∙◌, arith}
use Rattle.std.proofs.lemmas.Bool.{lt-ltb, le-ltb, le-leb, lt-leb, cond-true, cond-false}
use Rattle.bus.specs.declared.Message.{Message}
use Rattle.bus.specs.Reactions.{Rule, zeros}
use Rattle.savers.specs.declared.refusal.Refusal.TheVariants.{Full, TooFew}
use Rattle.savers.specs.Rows.{Row, capacity, follow, newest, has_room, has, row_taken, answer_taken, row_back, row_forgot, answer_if_has}

module _ (row : Row) (h : ℕ) (long : length row ≡ h + 1) where
  pub follow_is : follow row ≡ h
  follow_is = omega arith

  pub newest_is : newest row ≡ slice_index_or row h zeros
  newest_is = ap (λ k. get_or row k zeros) follow_is

  room : h < capacity → has_room row ≡ true
  room lt = lt-ltb (follow row) capacity (omega arith)

  no_room : capacity ≤ h → has_room row ≡ false
  no_room le = le-ltb (follow row) capacity (omega arith)

  there : (n : ℕ) → n ≤ h → has row n ≡ true
  there n le = le-leb n (follow row) (omega arith)

  not_there : (n : ℕ) → h < n → has row n ≡ false
  not_there n lt = lt-leb n (follow row) (omega arith)

  pub takes : (rule : Rule) (m : Message) → h < capacity → row_taken rule row m ≡ row ++ (rule (slice_index_or row h zeros) m).words ∷ []
  takes rule m lt = cond-true (has_room row) _ row (room lt) ∙ ap (λ w. row ++ (rule w m).words ∷ []) newest_is

  pub answers : (rule : Rule) (m : Message) → h < capacity → answer_taken rule row m ≡ Ok (rule (slice_index_or row h zeros) m).sends
  answers rule m lt = cond-true (has_room row) _ (Err Full) (room lt) ∙ ap (λ w. Ok (rule w m).sends) newest_is

  pub takes_not : (rule : Rule) (m : Message) → capacity ≤ h → row_taken rule row m ≡ row
  takes_not rule m le = cond-false (has_room row) _ row (no_room le)

  pub answers_full : (rule : Rule) (m : Message) → capacity ≤ h → answer_taken rule row m ≡ Err Full
  answers_full rule m le = cond-false (has_room row) _ (Err Full) (no_room le)

  pub goes_back : (n : ℕ) → n ≤ h → row_back row n ≡ take (n + 1) row
  goes_back n le = cond-true (has row n) _ row (there n le)

  pub goes_not : (n : ℕ) → h < n → row_back row n ≡ row
  goes_not n lt = cond-false (has row n) _ row (not_there n lt)

  pub forgets : (n : ℕ) → n ≤ h → row_forgot row n ≡ drop n row
  forgets n le = cond-true (has row n) _ row (there n le)

  pub forgets_not : (n : ℕ) → h < n → row_forgot row n ≡ row
  forgets_not n lt = cond-false (has row n) _ row (not_there n lt)

  pub answers_done : (n : ℕ) → n ≤ h → answer_if_has row n ≡ Ok tt
  answers_done n le = cond-true (has row n) _ (Err TooFew) (there n le)

  pub answers_few : (n : ℕ) → h < n → answer_if_has row n ≡ Err TooFew
  answers_few n lt = cond-false (has row n) _ (Err TooFew) (not_there n lt)

-- What one message does to the rack, to the numbers and to the machine is the same. Assumes nothing.
use Rattle.std.proofs.Common.{◌≡◌, ℕ, ◌+◌, ◌<◌, ◌≤◌, List, [], ◌∷◌, ◌++◌, map, length, get_or, take, drop, set, sym, ap, ◌∙◌, inl, inr, arith}
use Rattle.std.proofs.lemmas.Bool.{cases_Bool, lt-ltb, cond-true}
use Rattle.std.proofs.lemmas.List.{get_or_append_left, get_or-map, get_or-take, get_or_past, get_or-set_same, set-set, set-append_left, set_past, map-set, length-map, length-take, length-set, length-append}
use Rattle.bus.specs.declared.Message.{Message}
use Rattle.bus.specs.declared.Words.{Words}
use Rattle.bus.specs.declared.Send.{Send}
use Rattle.bus.specs.Reactions.{Sends, Rule, zeros, unmoved, listed}
use Rattle.bus.specs.declared.up_to_two.UpToTwo.TheVariants.{Nothing, One, Two}
use Rattle.savers.specs.Rows.{Row, row_taken, row_forgot, answer_taken}
use Rattle.racks.specs.Racks.{rule_at, row_at, passed_on}
use Rattle.addressing.specs.Settings.{Setting, boards_of, rule_of, passes, addressed_in}
use Rattle.sequential.specs.Sequential.{Machine, reaction, sending, advance}
use Rattle.racks.specs.Starts.{alone, with_words}
use Rattle.sequential.specs.Racks.{rows_reacted, sends_of, sends_reacted}
use Rattle.sequential.specs.Runs.{setting_of}

-- at most two messages come of one reaction
addressed_short : (boards end k t n : ℕ) (xs : List Send) → length (addressed_in boards end k t n xs) ≤ length xs
addressed_short boards end k t n [] = omega arith
addressed_short boards end k t n (x ∷ xs) = elim (cases_Bool (passes boards end t x)) [
  | inl h ↦ rw h (let rest = addressed_short boards end k t (n + 1) xs in omega arith)
  | inr h ↦ rw h (let rest = addressed_short boards end k t n xs in omega arith)
]

listed_short : (s : Sends) → length (listed s) ≤ 2
listed_short Nothing = omega arith
listed_short (One a) = omega arith
listed_short (Two a b) = omega arith

module _ (rules : List Rule) (end : ℕ) (m : Machine) (x : Message) where
  abbrev c : Setting
  c = setting_of rules end

  abbrev k : ℕ
  k = x.destination

  abbrev w : Words
  w = get_or m.words k zeros

  pub sending_short : length (sending c m x) ≤ 2
  sending_short =
      let s = listed (reaction c m x).sends in
      omega (arith, addressed_short (boards_of c) end k x.time (get_or m.sent k 0) s, listed_short (reaction c m x).sends)

  -- ---- a message to no board

  module _ (out : boards_of c ≤ k) where
    no_rule : rule_of c k ≡ unmoved
    no_rule = get_or_past (take 8 rules) k unmoved (omega (arith, length-take 8 rules))

    pub sending_out : sending c m x ≡ []
    sending_out = ap (λ (rule : Rule). addressed_in (boards_of c) end k x.time (get_or m.sent k 0) (listed (rule w x).sends)) no_rule

    pub words_out : length m.words ≡ boards_of c → (advance c m x).words ≡ m.words
    words_out wide = set_past m.words k _ (omega arith)

    pub sent_out : length m.sent ≡ boards_of c → (advance c m x).sent ≡ m.sent
    sent_out wide = set_past m.sent k _ (omega arith)

  -- ---- a message to a board

  module _ (within : k < boards_of c) (wide : length m.words ≡ boards_of c) (rows₀ rows : List Row) (level : length rows₀ ≡ length rules) (stands : rows ≡ with_words m.words rows₀) where
    abbrev front : List Row
    front = map alone m.words

    in_front_of : k < length front
    in_front_of = omega (arith, length-map m.words alone)

    behind : List Row
    behind = drop (length front) rows₀

    in_rows : k < length rows
    in_rows = omega (arith, ap length stands, length-append front (drop (length front) rows₀), in_front_of)

    its_rule : rule_of c k ≡ rule_at rules k
    its_rule = get_or-take 8 rules k unmoved (omega arith)

    its_row : row_at rows k ≡ w ∷ []
    its_row =
        ap (λ (rs : List Row). row_at rs k) stands
        ∙ get_or_append_left front (drop (length front) rows₀) [] k in_front_of
        ∙ get_or-map alone m.words k zeros [] (omega arith)

    taken : row_taken (rule_at rules k) (row_at rows k) x ≡ w ∷ (reaction c m x).words ∷ []
    taken = ap (λ (row : Row). row_taken (rule_at rules k) row x) its_row ∙ ap (λ (rule : Rule). row_taken rule (w ∷ []) x) (sym its_rule)

    pub rows_in : rows_reacted rules rows x ≡ with_words (advance c m x).words rows₀
    rows_in =
        let t = row_taken (rule_at rules k) (row_at rows k) x in
        let w' = (reaction c m x).words in
        ap (λ (row : Row). set (set rows k t) k (row_forgot row 1)) (get_or-set_same rows k t [] in_rows)
        ∙ set-set rows k t (row_forgot t 1)
        ∙ ap (λ (row : Row). set rows k (row_forgot row 1)) taken
        ∙ ap (λ (rs : List Row). set rs k (w' ∷ [])) stands
        ∙ set-append_left front (drop (length front) rows₀) k (w' ∷ []) in_front_of
        ∙ ap (λ (n : ℕ). set front k (w' ∷ []) ++ drop n rows₀) (sym (length-set front k (w' ∷ [])))
        ∙ ap (λ (rs : List Row). rs ++ drop (length rs) rows₀) (sym (map-set alone m.words k w'))

    told : sends_reacted rules rows x ≡ (reaction c m x).sends
    told =
        ap sends_of (cond-true _ _ _ (lt-ltb k (length rows) in_rows))
        ∙ ap (λ (row : Row). sends_of (passed_on (answer_taken (rule_at rules k) row x))) its_row
        ∙ ap (λ (rule : Rule). (rule w x).sends) (sym its_rule)

    pub sending_in : (sent : List ℕ) → get_or sent k 0 ≡ get_or m.sent k 0 → addressed_in (boards_of c) end k x.time (get_or sent k 0) (listed (sends_reacted rules rows x)) ≡ sending c m x
    sending_in sent same =
        ap (λ (n : ℕ). addressed_in (boards_of c) end k x.time n (listed (sends_reacted rules rows x))) same
        ∙ ap (λ (s : Sends). addressed_in (boards_of c) end k x.time (get_or m.sent k 0) (listed s)) told

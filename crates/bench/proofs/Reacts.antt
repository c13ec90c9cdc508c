-- A run that is accepted is the rule's, and a reached bench's saver never refuses one.
use Rattle.std.proofs.Common.{◌≡◌, ℕ, zero, suc, ◌-◌, ◌<◌, ◌≤◌, Bool, true, false, cond, ltb, List, [], ◌∷◌, ◌++◌, map, length, get_or, set, Some, Ok, Err, Result, sym, refl, ap, ◌∙◌, arith}
use Rattle.std.proofs.lemmas.List.{get_or-take}
use Rattle.std.proofs.lemmas.Bool.{lt-ltb, lt-leb, le-ltb}
use Rattle.bus.specs.declared.Message.{Message}
use Rattle.bus.specs.Reactions.{Sends, Rule, Reaction, unmoved, listed}
use Rattle.savers.specs.declared.refusal.Refusal.TheVariants.{Full}
use Rattle.savers.specs.Rows.{Row, newest, has_room}
use Rattle.racks.specs.declared.refusal.Refusal.{Refusal}
use Rattle.racks.specs.declared.refusal.Refusal.TheVariants as racks
use Rattle.racks.specs.Racks.{rule_at, passed_on, answers_taken, rows_taken}
use Rattle.addressing.specs.Settings.{Setting, boards_of, rule_of, addressed}
use Rattle.model.specs.declared.item.Item.{Item}
use Rattle.model.specs.declared.item.Item.TheVariants.{Plus}
use Rattle.model.specs.declared.refusal.Refusal.TheVariants as model
use Rattle.model.specs.State.{Queues, State, Answer, ran, refused, no_queues, issued, at_board, row_at, one_run}
use Rattle.model.specs.Deliver.{room}
use Rattle.model.specs.Run.{run, run_first, run_open, stood}
use Rattle.model.specs.Law.{Reached}
use Rattle.model.proofs.Reach.{reached_level}
use Rattle.queues.specs.declared.board.BoardQueues.{BoardQueues}
use Rattle.queues.proofs.Memories.{room_is}
use Rattle.queues.specs.Entries.{queues_of, first_message, stood_on, first_stands}

-- ---- the saver of a reached bench has room for an open message

room_within : (b : BoardQueues) → room (queues_of b) ≤ 32
room_within b = omega (arith, room_is b, b.fits)

pub rooms_within : (bs : List BoardQueues) (k : ℕ) → room (get_or (map queues_of bs) k no_queues) ≤ 32
rooms_within [] k = omega arith
rooms_within (b ∷ bs) zero = room_within b
rooms_within (b ∷ bs) (suc k) = rooms_within bs k

some_open : (os : List Message) (m : Message) → first_message os ≡ Some m → 1 ≤ length os
some_open [] m e = let z : ◌≡◌ {A = ℕ} 0 1 = cc in absurd (omega arith)
some_open (x ∷ os) m e = omega arith

-- what a rack answers to a take, by whether it has the board and the board's saver has room
abbrev taken_by : Bool → Bool → Sends → Result Sends Refusal
taken_by has room sends = cond has (passed_on (cond room (Ok sends) (Err Full))) (Err racks.NoBoard)

not_refused : (a b : Bool) (e : Refusal) (x : Sends) → a ≡ true → b ≡ true → Err e ≡ taken_by a b x → ⊥
not_refused true true e x p q r = let z : ◌≡◌ {A = ℕ} 0 1 = cc in absurd (omega arith)
not_refused true false e x p q r = let z : ◌≡◌ {A = ℕ} 0 1 = cc in absurd (omega arith)
not_refused false b e x p q r = let z : ◌≡◌ {A = ℕ} 0 1 = cc in absurd (omega arith)

taken_cases : (a b : Bool) (x y : Sends) → Ok x ≡ taken_by a b y → (b ≡ true) × (x ≡ y)
taken_cases true true x y e = let z : x ≡ y = cc in (refl, z)
taken_cases true false x y e = let z : ◌≡◌ {A = ℕ} 0 1 = cc in absurd (omega arith)
taken_cases false b x y e = let z : ◌≡◌ {A = ℕ} 0 1 = cc in absurd (omega arith)

pub never_refused : (c : Setting) (s : State) (k : ℕ) (m : Message) (e : Refusal) → Reached c s → length s.rows ≡ length c.rules → k < boards_of c → room (at_board s k) ≤ 32
    → first_message (at_board s k).open_ones ≡ Some m → Err e ≡ answers_taken c.rules s.rows k m → ⊥
never_refused c s k m e r level kb rm em refusal =
    let row = row_at s k in
    not_refused (ltb k (length s.rows)) (has_room row) e (rule_at c.rules k (newest row) m).sends
    (lt-ltb k (length s.rows) (omega (arith, level, kb)))
    (lt-ltb (length row - 1) 32 (omega (arith, reached_level c s r k kb, rm, some_open (at_board s k).open_ones m em)))
    refusal

-- ---- the state after an accepted run

pub rest_of : List Message → List Message
rest_of [] = []
rest_of (m ∷ ms) = ms

pub first_some : (os : List Message) (m : Message) → first_message os ≡ Some m → os ≡ m ∷ rest_of os
unfolding rest_of
first_some [] m e = let z : ◌≡◌ {A = ℕ} 0 1 = cc in absurd (omega arith)
first_some (x ∷ os) m e = cc

-- a board of the bench reacts as its rack says
same_rule : (c : Setting) (k : ℕ) → k < boards_of c → rule_at c.rules k ≡ rule_of c k
same_rule c k kb = sym (get_or-take 8 c.rules k unmoved (omega (arith, kb)))

module _ (c : Setting) (s : State) (k : ℕ) (m : Message) (sends : Sends) where
  abbrev pub Ran : List Row → Queues → List Item → ℕ → State × Answer
  Ran rows' q' transit' n = (
    record {
      rows = rows';
      boards = set s.boards k q';
      transit = transit';
      counters = one_run s.counters;
      last = s.last;
    },
    ran n,
  )

  pub run_is : (out rest : List Message) (rows' : List Row) (q' : Queues) (transit' : List Item) (n : ℕ)
      → (at_board s k).open_ones ≡ m ∷ rest → k < boards_of c → s.counters.runs < 1000000000 → length s.transit ≤ 126
      → Ok sends ≡ answers_taken c.rules s.rows k m → rows' ≡ rows_taken c.rules s.rows k m
      → out ≡ addressed c k m.time (issued (at_board s k)) (listed sends)
      → q' ≡ first_stands out (at_board s k) → transit' ≡ s.transit ++ map Plus out → n ≡ length out
      → Ran rows' q' transit' n ≡ run c s k
  run_is out rest rows' q' transit' n eo lk lr lt ea er eout eq et en =
      let q = at_board s k in
      let row = row_at s k in
      let taken = rule_at c.rules k (newest row) m in
      let t = taken_cases (ltb k (length s.rows)) (has_room row) sends taken.sends ea in
      let rows'' : Reaction → List Row = λ r. set s.rows k (row ++ r.words ∷ []) in
      let er' : rows' ≡ rows'' taken = er ∙ ap (λ (b : Bool). set s.rows k (cond b (row ++ taken.words ∷ []) row)) t.0 in
      let eq' : q' ≡ stood q m rest out = eq ∙ ap (stood_on out q) eo in
      let sent : Sends → List Message = λ x. addressed c k m.time (issued q) (listed x) in
      let H : List Row → List Message → State × Answer = λ rs o. Ran rs (stood q m rest o) (s.transit ++ map Plus o) (length o) in
      let f₁ : Bool → State × Answer = λ b. cond b (s, refused model.NoBoard) (run_first c s k q.open_ones) in
      let f₂ : Bool → State × Answer = λ b. cond b (s, refused model.RunsSpent) (cond (ltb 126 (length s.transit)) (s, refused model.TransitFull) (run_open c s k m rest)) in
      let f₃ : Bool → State × Answer = λ b. cond b (s, refused model.TransitFull) (run_open c s k m rest) in
      let whole : run c s k ≡ run_open c s k m rest =
      ap f₁ (lt-leb (boards_of c) k lk) ∙ ap (run_first c s k) eo ∙ ap f₂ (lt-leb 1000000000 s.counters.runs lr) ∙ ap f₃ (le-ltb 126 (length s.transit) lt) in
      ap (λ x. Ran x q' transit' n) er' ∙ ap (λ x. Ran (rows'' taken) x transit' n) eq'
      ∙ ap (λ x. Ran (rows'' taken) (stood q m rest out) x n) et ∙ ap (λ x. Ran (rows'' taken) (stood q m rest out) (s.transit ++ map Plus out) x) en
      ∙ ap (H (rows'' taken)) eout ∙ ap (λ x. H (rows'' taken) (sent x)) t.1
      ∙ ap (λ (f : Rule). H (rows'' (f (newest row) m)) (sent (f (newest row) m).sends)) (same_rule c k lk) ∙ sym whole

-- Calls one after the other: what is written once some are played.
use Rattle.std.proofs.Common.{◌≡◌, ℕ, suc, ◌+◌, ◌-◌, ◌<◌, ◌≤◌, min, Bool, List, [], ◌∷◌, ◌++◌, map, length, take, drop, set, sym, refl, ap, ◌∙◌, subst, inl, inr, arith}
use Rattle.std.proofs.lemmas.List.{append_assoc, append-nil, length-append, length-map, length-drop, map-append, take_at, drop_at, drop-drop, drop_all, take_all, take_rest}
use Rattle.std.proofs.lemmas.Bool.{cases_Bool, cases_lt}
use Rattle.rows.specs.Rows.{in_front}
use Rattle.rows.proofs.Laws.{length_insert}
use Rattle.bus.specs.declared.Message.{Message}
use Rattle.bus.specs.declared.Words.{Words}
use Rattle.bus.specs.Order.{message_before}
use Rattle.savers.specs.Rows.{Row}
use Rattle.racks.proofs.Fronts.{front_push}
use Rattle.addressing.specs.Settings.{Setting}
use Rattle.model.specs.declared.call.Call.{Call}
use Rattle.model.specs.declared.call.Call.TheVariants.{Offer, Deliver, Run, Outlook, Commit}
use Rattle.model.specs.declared.outcome.Outcome.{Outcome}
use Rattle.model.specs.State.{State, Answer, refused, offered, delivered, ran, looked, committed, flat, standing, started, more_committed}
use Rattle.model.specs.Outlook.{outlook}
use Rattle.model.specs.Commit.{filter, in_order, is_final, finals, forget_from, shed_from, last_line}
use Rattle.model.specs.Perform.{perform, after, answers, lines_of, lines, runs_of, total}
use Rattle.model.specs.Law.{SetUp, Reached}
use Rattle.model.specs.Outcomes.{outcome_of, lines_in}
use Rattle.model.proofs.Transits.{flat_append}
use Rattle.model.proofs.Reach.{after_append}
use Rattle.model.proofs.Law.{law}
use Rattle.bench.specs.Logs.{fitted, put_into, perform_into}
use Rattle.bench.specs.Drives.{calls_with_memory}

-- calls and then others
module _ (c : Setting) where
  pub answers_append : (xs ys : List Call) (s : State) → answers c s (xs ++ ys) ≡ answers c s xs ++ answers c (after c s xs) ys
  answers_append [] ys s = refl
  answers_append (x ∷ xs) ys s = ap (λ l. (perform c s x).1 ∷ l) (answers_append xs ys (perform c s x).0)

  pub answers_length : (xs : List Call) (s : State) → length (answers c s xs) ≡ length xs
  answers_length [] s = refl
  answers_length (x ∷ xs) s = ap suc (answers_length xs (perform c s x).0)

  -- each call runs a board once at most
  runs_within : (xs : List Call) (s : State) → total runs_of (answers c s xs) ≤ length xs
  runs_within [] s = omega arith
  runs_within (x ∷ xs) s = omega (arith, one (perform c s x).1, runs_within xs (perform c s x).0)
    where
      one : (a : Answer) → runs_of a ≤ 1
      one (refused e) = omega arith
      one (offered n) = omega arith
      one (delivered n) = omega arith
      one (ran n) = omega arith
      one (looked o) = omega arith
      one (committed ls) = omega arith

pub lines_append : (xs ys : List Answer) → lines (xs ++ ys) ≡ lines xs ++ lines ys
lines_append xs ys = ap flat (map-append lines_of xs ys) ∙ flat_append (map lines_of xs) (map lines_of ys)

pub lines_told : (a : Answer) → lines_in (outcome_of a) ≡ length (lines_of a)
lines_told (refused e) = refl
lines_told (offered n) = refl
lines_told (delivered n) = refl
lines_told (ran n) = refl
lines_told (looked o) = refl
lines_told (committed ls) = refl

-- there is memory for all lines
in_order_length : (xs : List Message) → length (in_order xs) ≡ length xs
in_order_length [] = refl
in_order_length (x ∷ xs) = omega (arith, length_insert message_before x (in_order xs), in_order_length xs)

filter_length : (f : Message → Bool) (xs : List Message) → length (filter f xs) ≤ length xs
filter_length f [] = omega arith
filter_length f (x ∷ xs) =
    let h = filter_length f xs in
    elim (cases_Bool (f x)) [ inl e ↦ rw e (omega (arith, h)) | inr e ↦ rw e (omega (arith, h)) ]

pub finals_within : (c : Setting) (starts : List Words) (rows : List Row) → SetUp c starts rows → (calls : List Call) →
    length (in_order (finals (after c (started rows) calls))) + length (lines (answers c (started rows) calls)) ≤ length calls
finals_within c starts rows u calls =
    let s = after c (started rows) calls in
    omega (arith, (law c starts rows u calls).runs_are_committed_standing_or_undone, runs_within c calls (started rows), in_order_length (finals s), filter_length (is_final (outlook s)) (standing s))

take_min : {X : Type 0} (m n : ℕ) (xs : List X) → length xs ≤ n → take (min m n) xs ≡ take m xs
take_min m n xs h = elim (cases_lt n m) [
  | inl l ↦ let e : min m n ≡ n = omega arith in rw e (take_all n xs h ∙ sym (take_all m xs (omega arith)))
  | inr l ↦ let e : min m n ≡ m = omega arith in rw e
]

abbrev committing : State → List Message → State × Answer
committing s ls = (
  record {
    rows = forget_from 0 ls s.rows;
    boards = shed_from 0 ls s.boards;
    transit = s.transit;
    counters = more_committed (length ls) s.counters;
    last = last_line s.last ls;
  },
  committed ls,
)

pub fitted_same : (c : Setting) (s : State) (n : ℕ) (call : Call) → length (in_order (finals s)) ≤ n → perform c s (fitted n call) ≡ perform c s call
fitted_same c s n (Offer t d k p) h = refl
fitted_same c s n (Deliver i) h = refl
fitted_same c s n (Run k) h = refl
fitted_same c s n Outlook h = refl
fitted_same c s n (Commit most) h = ap (committing s) (take_min most n (in_order (finals s)) h)

-- a list behind another in front of a memory
front_append : {X : Type 0} (xs ys memory : List X) (n : ℕ) → n ≡ length xs → take n (in_front xs memory) ++ in_front ys (drop n (in_front xs memory)) ≡ in_front (xs ++ ys) memory
front_append xs ys memory n e =
    let tail = drop (length xs) memory in
    ap (λ l. l ++ in_front ys (drop n (in_front xs memory))) (take_at xs tail n (sym e))
    ∙ ap (λ l. xs ++ in_front ys l) (drop_at xs tail n (sym e))
    ∙ ap (λ l. xs ++ (ys ++ l)) (drop-drop (length ys) (length xs) memory)
    ∙ sym (append_assoc xs ys (drop (length xs + length ys) memory))
    ∙ ap (λ k. (xs ++ ys) ++ drop k memory) (sym (length-append xs ys))

-- what holds once some calls are played
pub record Played (c : Setting) (s₀ : State) (outs₀ : List Outcome) (log₀ : List Message) (xs : List Call) (s : State) (outs : List Outcome) (log : List Message) (n : ℕ) : Type 0 where
  pub state_is : s ≡ after c s₀ xs
  pub outs_are : outs ≡ in_front (map outcome_of (answers c s₀ xs)) outs₀
  pub log_is : log ≡ in_front (lines (answers c s₀ xs)) log₀
  pub count_is : n ≡ length (lines (answers c s₀ xs))

pub played_none : (c : Setting) (s₀ : State) (outs₀ : List Outcome) (log₀ : List Message) → Played c s₀ outs₀ log₀ [] s₀ outs₀ log₀ 0
played_none c s₀ outs₀ log₀ = record { state_is = refl; outs_are = refl; log_is = refl; count_is = refl }

module _ (c : Setting) (s₀ : State) (outs₀ : List Outcome) (log₀ : List Message) (xs : List Call) (s : State) (outs : List Outcome) (log : List Message) (n : ℕ) (p : Played c s₀ outs₀ log₀ xs s outs log n) where
  pub played_within : n ≤ length log
  played_within = omega (arith, p.count_is, ap length p.log_is, length-append (lines (answers c s₀ xs)) (drop (length (lines (answers c s₀ xs))) log₀))

  module _ (call : Call) where
    abbrev a : Answer
    a = (perform c s call).1

    after_more : after c s₀ (xs ++ (call ∷ [])) ≡ (perform c s call).0
    after_more = after_append c xs (call ∷ []) s₀ ∙ ap (λ (x : State). (perform c x call).0) (sym p.state_is)

    answers_more : answers c s₀ (xs ++ (call ∷ [])) ≡ answers c s₀ xs ++ (a ∷ [])
    answers_more = answers_append c xs (call ∷ []) s₀ ∙ ap (λ (x : State). answers c s₀ xs ++ ((perform c x call).1 ∷ [])) (sym p.state_is)

    lines_more : lines (answers c s₀ (xs ++ (call ∷ []))) ≡ lines (answers c s₀ xs) ++ lines_of a
    lines_more = ap lines answers_more ∙ lines_append (answers c s₀ xs) (a ∷ []) ∙ ap (λ l. lines (answers c s₀ xs) ++ l) (append-nil (lines_of a))

    module _ (s' : State) (o : Outcome) (part : List Message) (e : (s', o, part) ≡ put_into (drop n log) (perform c s call)) where
      told_lines : lines_in o ≡ length (lines_of a)
      told_lines = ap lines_in (ap (λ (x : State × Outcome × List Message). x.1) e) ∙ lines_told a

      told_part : part ≡ in_front (lines_of a) (drop n log)
      told_part = ap (λ (x : State × Outcome × List Message). x.2) e

      pub told_within : length part ≡ length (drop n log) → n + lines_in o ≤ length log
      told_within same = omega (arith, told_lines, ap length told_part, length-append (lines_of a) (drop (length (lines_of a)) (drop n log)), length-drop n log, played_within, same)

      pub played_more : (i m k : ℕ) → i ≡ length xs → i < length outs₀ → m ≡ lines_in o → length (drop n log) ≤ k →
          Played c s₀ outs₀ log₀ (xs ++ (call ∷ [])) s' (set outs i o) (take n log ++ (part ++ drop k (drop n log))) (n + m)
      played_more i m k at io wrote all =
          let outs-so = map outcome_of (answers c s₀ xs) in
          let lines-so = lines (answers c s₀ xs) in
          let es : s' ≡ (perform c s call).0 = ap (λ (x : State × Outcome × List Message). x.0) e in
          let eo : o ≡ outcome_of a = ap (λ (x : State × Outcome × List Message). x.1) e in
          let many : i ≡ length outs-so = at ∙ sym (length-map (answers c s₀ xs) outcome_of ∙ answers_length c xs s₀) in
          record {
            state_is = es ∙ sym after_more;
            outs_are = ap (set outs i) eo ∙ ap (λ l. set l i (outcome_of a)) p.outs_are ∙ front_push outs-so outs₀ i (outcome_of a) (sym many) io
                ∙ ap (λ l. in_front l outs₀) (sym (ap (map outcome_of) answers_more ∙ map-append outcome_of (answers c s₀ xs) (a ∷ [])));
            log_is = ap (λ l. take n log ++ l) (ap (λ l. part ++ l) (drop_all k (drop n log) all) ∙ append-nil part ∙ told_part) ∙ ap (λ l. take n l ++ in_front (lines_of a) (drop n l)) p.log_is ∙ front_append lines-so (lines_of a) log₀ n p.count_is ∙ ap (λ l. in_front l log₀) (sym lines_more);
            count_is = ap (λ j. n + j) (wrote ∙ told_lines) ∙ omega (arith, p.count_is, ap length lines_more, length-append lines-so (lines_of a));
          }

-- the run of a bench whose savers have begun
module _ (c : Setting) (starts : List Words) (rows : List Row) (u : SetUp c starts rows)
    (outs₀ : List Outcome) (log₀ : List Message) (xs : List Call) (s : State) (outs : List Outcome) (log : List Message) (n : ℕ) (p : Played c (started rows) outs₀ log₀ xs s outs log n) where
  room_left : length log ≡ length log₀ → length xs ≤ length log₀ → length (in_order (finals s)) ≤ length (drop n log)
  room_left same few = omega (
    arith,
    finals_within c starts rows u xs,
    ap (λ (x : State). length (in_order (finals x))) p.state_is,
    p.count_is,
    length-drop n log,
    same,
    few,
  )

  -- what a turn of the loop is told
  module _ (now : Setting) (kept : now ≡ c) where
    pub reached_so : Reached now s
    reached_so = record {
      starts = starts;
      rows = rows;
      calls = xs;
      set_up = subst (λ (x : Setting). SetUp x starts rows) (sym kept) u;
      by_calls = ap (λ (x : Setting). after x (started rows) xs) kept ∙ sym p.state_is;
    }

    pub turn_told : (call : Call) (r : State × Outcome × List Message) → length log ≡ length log₀ → length xs ≤ length log₀ → r ≡ perform_into (take (length log - n) (drop n log)) now s call →
        r ≡ put_into (drop n log) (perform c s call)
    turn_told call r same few e =
        e ∙ ap (λ (x : List Message). perform_into x now s call) (take_rest log n) ∙ ap (λ (x : Setting). perform_into (drop n log) x s call) kept
        ∙ ap (put_into (drop n log)) (fitted_same c s (length (drop n log)) call (room_left same few))

-- as many calls as there is memory for
pub all_played : (calls : List Call) (outs : List Outcome) (log : List Message) (many : ℕ) → many ≡ min (min (length calls) (length outs)) (length log) → take many calls ≡ calls_with_memory calls outs log
all_played calls outs log many e = elim (cases_lt (length calls) (min (length outs) (length log))) [
  | inl l ↦ take_all many calls (omega arith) ∙ sym (take_all (min (length outs) (length log)) calls (omega arith))
  | inr l ↦ let same : many ≡ min (length outs) (length log) = omega arith in ap (λ (k : ℕ). take k calls) same
]

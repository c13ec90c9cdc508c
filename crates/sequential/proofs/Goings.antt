-- A whole run over a rack and lent memory: it starts tied to the machine, and each turn keeps that. Assumes nothing.
use Rattle.std.proofs.Common.{◌≡◌, ℕ, suc, ◌+◌, ◌<◌, ◌≤◌, true, List, ◌++◌, map, length, get_or, take, set, replicate, is_ok, Some, Ok, sym, refl, ap, ◌∙◌, subst, inl, inr, add-one, arith}
use Rattle.std.proofs.lemmas.Bool.{cases_lt}
use Rattle.std.proofs.lemmas.List.{length-take, length-take-le, length-map, get_or_past, get_or-replicate, take-replicate}
use Rattle.rows.specs.Rows.{least, without_one, in_front}
use Rattle.rows.proofs.Laws.{take_own}
use Rattle.rows.proofs.Lent.{take_in_front}
use Rattle.bus.specs.declared.Message.{Message}
use Rattle.bus.specs.declared.Words.{Words}
use Rattle.bus.specs.Order.{message_before}
use Rattle.bus.specs.Reactions.{Rule}
use Rattle.savers.specs.Rows.{Row}
use Rattle.addressing.specs.Settings.{boards_of}
use Rattle.sequential.specs.Sequential.{Machine, fresh, advance, step_on}
use Rattle.sequential.specs.Laws.{LawfulLog}
use Rattle.racks.specs.Starts.{alone, with_words}
use Rattle.racks.proofs.Fronts.{front_over}
use Rattle.sequential.specs.Racks.{rows_after, messages_after, sent_after}
use Rattle.sequential.specs.Runs.{setting_of, starts_of, ran, pending_memory, next_of, next_in}
use Rattle.sequential.proofs.Logs.{steps_more, lawful}
use Rattle.sequential.proofs.Turns.{sending_short}
use Rattle.sequential.proofs.Ties.{Next, next_told, Tied, less_short, sends_turn, pending_turn, tied_turn}

module _ (rules : List Rule) (end : ℕ) (starts : List Words) (memory₀ : List Message) (count lines : ℕ) (rows₀ : List Row) (log₀ : List Message) where
  abbrev stimuli : List Message
  stimuli = take count memory₀

  abbrev places : ℕ
  places = length memory₀

  abbrev at : ℕ → Machine
  at n = ran rules end starts stimuli n

  -- so far the run is tied to the machine, and never had to end
  pub record Going (n held : ℕ) (rows : List Row) (sent : List ℕ) (pending log : List Message) : Type 0 where
    pub tied : Tied rules end rows₀ log₀ (at n) n held rows sent pending log
    pub kept : pending ≡ pending_memory rules end starts memory₀ count n
    pub upto : n ≤ lines
    pub goes : (j : ℕ) → j < n → is_ok (next_in places lines (at j)) ≡ true

  pub next_is : (n held : ℕ) (rows : List Row) (sent : List ℕ) (pending log : List Message) → Going n held rows sent pending log → next_of places lines n (take held pending) ≡ next_in places lines (at n)
  next_is n held rows sent pending log g =
      ap (next_of places lines n) g.tied.waits ∙ ap (λ (j : ℕ). next_of places lines j (at n).pending) (sym g.tied.lined)

  pub at_next : (n : ℕ) (x : Message) → least message_before (at n).pending ≡ Some x → at (n + 1) ≡ advance (setting_of rules end) (at n) x
  at_next n x is =
      ap at (add-one n)
      ∙ steps_more (setting_of rules end) n (fresh (setting_of rules end) (starts_of rules end starts) stimuli)
      ∙ ap (step_on (setting_of rules end) (at n)) is

  pub going_more : (n held : ℕ) (rows : List Row) (sent : List ℕ) (pending log : List Message) → Going n held rows sent pending log →
      (x : Message) → next_of places lines n (take held pending) ≡ Ok x →
      (held' : ℕ) (rows' : List Row) (sent' : List ℕ) (pending' log' : List Message) →
      Tied rules end rows₀ log₀ (advance (setting_of rules end) (at n) x) (n + 1) held' rows' sent' pending' log' →
      pending' ≡ in_front (advance (setting_of rules end) (at n) x).pending pending →
      Going (n + 1) held' rows' sent' pending' log'
  going_more n held rows sent pending log g x is held' rows' sent' pending' log' t then =
      let told = next_told places lines n (length (take held pending)) (least message_before (take held pending)) x is in
      let first : least message_before (at n).pending ≡ Some x = ap (least message_before) (sym g.tied.waits) ∙ told.is in
      record {
        tied = subst (λ (m : Machine). Tied rules end rows₀ log₀ m (n + 1) held' rows' sent' pending' log') (sym (at_next n x first)) t;
        kept =
            then
            ∙ ap (λ (m : Machine). in_front m.pending pending) (sym (at_next n x first) ∙ ap at (add-one n))
            ∙ ap (in_front (at (suc n)).pending) g.kept
            ∙ ap (pending_memory rules end starts memory₀ count) (sym (add-one n));
        upto = omega (arith, told.line);
        goes = λ j h. elim (cases_lt j n) [
          | inl l ↦ g.goes j l
          | inr e ↦
              let same : j ≡ n = omega arith in
              ap (λ (i : ℕ). is_ok (next_in places lines (at i))) same ∙ ap is_ok (sym (next_is n held rows sent pending log g) ∙ is)
        ];
      }

  pub lawful_log : (n held : ℕ) (rows : List Row) (sent : List ℕ) (pending log : List Message) → Going n held rows sent pending log → LawfulLog (setting_of rules end) (starts_of rules end starts) stimuli (take n log)
  lawful_log n held rows sent pending log g =
      let written : take n log ≡ (at n).log = ap (take n) g.tied.logged ∙ take_in_front (at n).log log₀ n g.tied.lined in
      subst (LawfulLog (setting_of rules end) (starts_of rules end starts) stimuli) (sym written) (lawful (setting_of rules end) (starts_of rules end starts) stimuli n)

  -- ---- a turn, as the calls in it tell what they did

  module _ (n held : ℕ) (rows : List Row) (sent : List ℕ) (pending log : List Message) (g : Going n held rows sent pending log)
      (long : ℕ) (still : long ≡ places) (x : Message) (told-next : Ok x ≡ next_of long lines n (take held pending)) where
    abbrev k : ℕ
    k = x.destination

    abbrev boards : ℕ
    boards = boards_of (setting_of rules end)

    abbrev less : List Message
    less = without_one message_before x (take held pending)

    next : next_of places lines n (take held pending) ≡ Ok x
    next = ap (λ (p : ℕ). next_of p lines n (take held pending)) (sym still) ∙ sym told-next

    told : Next places lines n (length (take held pending)) (least message_before (take held pending)) x
    told = next_told places lines n (length (take held pending)) (least message_before (take held pending)) x next

    pub line_free : n < lines
    line_free = told.line

    pub numbers_fit : lines ≤ 1000000000 → get_or sent k 0 + 2 < 4294967296
    numbers_fit few = omega (arith, told.line, g.tied.few k)

    one_less : length less + 1 ≡ held
    one_less = less_short rules end rows₀ log₀ (at n) n held rows sent pending log g.tied x told.is

    pub places_free : length less + 2 ≤ long
    places_free = omega (arith, still, one_less, told.place, length-take-le held pending g.tied.within)

    pub going_turn : length rows₀ ≡ length rules → lines ≤ length log₀ →
        (left held' : ℕ) (batch pending₁ pending' : List Message) (rows' : List Row) (sent' : List ℕ) →
        left ≡ length less → pending₁ ≡ in_front less pending →
        rows' ≡ rows_after rules rows x →
        batch ≡ messages_after rules end rows sent x →
        sent' ≡ sent_after rules sent x (length batch) →
        held' ≡ left + length batch → pending' ≡ in_front (take left pending₁ ++ batch) pending₁ → length pending' ≡ long →
        Going (n + 1) held' rows' sent' pending' (set log n x)
    going_turn level room left held' batch pending₁ pending' rows' sent' left_is first rows_are batch-is sent_is held-now then stays =
        let sends = batch-is ∙ sends_turn rules end rows₀ log₀ (at n) n held rows sent pending log g.tied x told.is level in
        let few-sent : length batch ≤ 2 = omega (arith, ap length sends, sending_short rules end (at n) x) in
        let now-pending = pending_turn rules end rows₀ log₀ (at n) n held rows sent pending log g.tied x told.is batch sends sent' sent_is left pending₁ pending' left_is first then in
        going_more n held rows sent pending log g x next held' rows' sent' pending' (set log n x)
        (tied_turn rules end rows₀ log₀ (at n) n held rows sent pending log g.tied x told.is batch sends sent' sent_is level left held' pending' rows'
        (omega (arith, told.line)) left_is held-now now-pending (omega (arith, places_free)) rows_are)
        now-pending

  -- ---- the start

  zeroed : (k : ℕ) → get_or {A = ℕ} (replicate 8 0) k 0 ≡ 0
  zeroed k = elim (cases_lt k 8) [ inl h ↦ get_or-replicate {A = ℕ} 8 k 0 0 h | inr h ↦ get_or_past {X = ℕ} (replicate 8 0) k 0 h ]

  pub going_start : (rows : List Row) → rows₀ ≡ with_words (starts_of rules end starts) rows → length starts ≡ 8 →
      (held : ℕ) → held ≡ length stimuli → Going 0 held rows₀ (replicate 8 0) memory₀ log₀
  going_start rows begun long held held_is =
      let few-starts : length (starts_of rules end starts) ≡ boards_of (setting_of rules end) = length-take-le (boards_of (setting_of rules end)) starts (omega arith) in
      let front = map alone (starts_of rules end starts) in
      record {
        tied = record {
          logged = refl;
          lined = refl;
          waits = ap (λ (n : ℕ). take n memory₀) held_is ∙ take_own count memory₀;
          within = omega (arith, length-take count memory₀);
          stands = begun ∙ sym (front_over front front rows (omega arith)) ∙ ap (in_front front) (sym begun);
          words_wide = few-starts;
          numbered = take-replicate {X = ℕ} (boards_of (setting_of rules end)) 8 0 (omega arith) ∙ ap (λ (n : ℕ). replicate n 0) (sym few-starts);
          sent_wide = refl;
          few = λ k. omega (arith, zeroed k);
        };
        kept = refl;
        upto = omega arith;
        goes = λ j h. absurd (omega arith);
      }

  -- ---- the end: the rows behind the boards are those from before the start

  pub rows_at_end : (rows : List Row) → rows₀ ≡ with_words (starts_of rules end starts) rows → length starts ≡ 8 →
      (n held : ℕ) (now : List Row) (sent : List ℕ) (pending log : List Message) → Going n held now sent pending log → now ≡ with_words (at n).words rows
  rows_at_end rows begun long n held now sent pending log g =
      let few-starts : length (starts_of rules end starts) ≡ boards_of (setting_of rules end) = length-take-le (boards_of (setting_of rules end)) starts (omega arith) in
      g.tied.stands
      ∙ ap (with_words (at n).words) begun
      ∙ front_over (map alone (at n).words) (map alone (starts_of rules end starts)) rows
      (omega (arith, length-map (at n).words alone, g.tied.words_wide, few-starts, length-map (starts_of rules end starts) alone))

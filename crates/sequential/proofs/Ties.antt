-- What ties a run over a rack and lent memory to the machine, and that each turn keeps it. Assumes nothing.
use Rattle.std.proofs.Common.{◌≡◌, ℕ, ◌+◌, ◌*◌, ◌<◌, ◌≤◌, leb, List, ◌++◌, length, get_or, take, set, is_ok, Some, None, Ok, Option, sym, ap, ◌∙◌, inl, inr, arith}
use lib.Seq.{take-set-lt}
use Rattle.std.proofs.lemmas.Bool.{false≢true, cases_lt, cases_eq, cases_Bool, lt-ltb, le-ltb, leb-false, cond-true, cond-false}
use Rattle.std.proofs.lemmas.List.{length-set, length-append, length-take-le, length_push, get_or-take, get_or-set_same, get_or-set_other}
use Rattle.rows.specs.Rows.{least, without_one, in_front}
use Rattle.rows.proofs.Lent.{take_in_front}
use Rattle.bus.specs.declared.Message.{Message}
use Rattle.bus.specs.declared.Words.{Words}
use Rattle.bus.specs.Order.{message_before, message_total}
use Rattle.bus.specs.Reactions.{Rule}
use Rattle.savers.specs.Rows.{Row}
use Rattle.addressing.specs.Settings.{Setting, boards_of}
use Rattle.sequential.specs.Sequential.{Machine, sending, advance}
use Rattle.racks.specs.Starts.{with_words}
use Rattle.racks.proofs.Fronts.{front_over, front_push}
use Rattle.sequential.specs.Racks.{rows_after, messages_after, sent_after}
use Rattle.sequential.specs.Runs.{setting_of, next_or}
use Rattle.sequential.proofs.Firsts.{least_is, length_without_one}
use Rattle.sequential.proofs.Turns.{sending_short, sending_out, words_out, sent_out, rows_in, sending_in}

-- ---- what it says that a message comes next

pub record Next (places lines n held : ℕ) (o : Option Message) (x : Message) : Type 0 where
  pub is : o ≡ Some x
  pub line : n < lines
  pub place : held < places

pub next_told : (places lines n held : ℕ) (o : Option Message) (x : Message) → next_or places lines n held o ≡ Ok x → Next places lines n held o x
next_told places lines n held None x h = absurd (false≢true (ap is_ok h))
next_told places lines n held (Some y) x h = elim (cases_Bool (leb lines n)) [
  | inl e ↦ absurd (false≢true (ap is_ok (sym (cond-true _ _ _ e) ∙ h)))
  | inr e ↦ elim (cases_Bool (leb places held)) [
    | inl f ↦ absurd (false≢true (ap is_ok (sym (cond-false _ _ _ e ∙ cond-true _ _ _ f) ∙ h)))
    | inr f ↦
        let same : Ok y ≡ Ok x = sym (cond-false _ _ _ e ∙ cond-false _ _ _ f) ∙ h in
        let is_x : y ≡ x = cc in
        record { is = ap Some is_x; line = leb-false lines n e; place = leb-false places held f }
  ]
]

module _ (rules : List Rule) (end : ℕ) (rows₀ : List Row) (log₀ : List Message) where
  abbrev c : Setting
  c = setting_of rules end

  abbrev boards : ℕ
  boards = boards_of c

  -- a machine that has taken n messages, and the memory of a run
  pub record Tied (m : Machine) (n held : ℕ) (rows : List Row) (sent : List ℕ) (pending log : List Message) : Type 0 where
    pub logged : log ≡ in_front m.log log₀
    pub lined : length m.log ≡ n
    pub waits : take held pending ≡ m.pending
    pub within : held ≤ length pending
    pub stands : rows ≡ with_words m.words rows₀
    pub words_wide : length m.words ≡ boards
    pub numbered : take boards sent ≡ m.sent
    pub sent_wide : length sent ≡ 8
    pub few : (k : ℕ) → get_or sent k 0 ≤ 2 * n

  pub held_is : (m : Machine) (n held : ℕ) (rows : List Row) (sent : List ℕ) (pending log : List Message) → Tied m n held rows sent pending log → held ≡ length m.pending
  held_is m n held rows sent pending log t = sym (length-take-le held pending t.within) ∙ ap length t.waits

  -- ---- one turn

  module _ (m : Machine) (n held : ℕ) (rows : List Row) (sent : List ℕ) (pending log : List Message) (t : Tied m n held rows sent pending log)
      (x : Message) (least_pending : least message_before (take held pending) ≡ Some x) where
    abbrev k : ℕ
    k = x.destination

    abbrev m' : Machine
    m' = advance c m x

    abbrev less : List Message
    less = without_one message_before x (take held pending)

    pub less_short : length less + 1 ≡ held
    less_short = length_without_one message_before x (take held pending) (least_is message_total (take held pending) x least_pending).stands ∙ length-take-le held pending t.within

    sent_long : length m.sent ≡ boards
    sent_long = sym (ap length t.numbered) ∙ length-take-le boards sent (omega (arith, t.sent_wide))

    number_is : k < boards → get_or sent k 0 ≡ get_or m.sent k 0
    number_is h = sym (get_or-take boards sent k 0 h) ∙ ap (λ (ns : List ℕ). get_or ns k 0) t.numbered

    pub rows_turn : length rows₀ ≡ length rules → rows_after rules rows x ≡ with_words m'.words rows₀
    rows_turn level = elim (cases_lt k boards) [
      | inl h ↦ cond-true _ _ _ (lt-ltb k boards h) ∙ rows_in rules end m x h t.words_wide rows₀ rows level t.stands
      | inr h ↦ cond-false _ _ _ (le-ltb k boards h) ∙ t.stands ∙ ap (λ (ws : List Words). with_words ws rows₀) (sym (words_out rules end m x h t.words_wide))
    ]

    pub sends_turn : length rows₀ ≡ length rules → messages_after rules end rows sent x ≡ sending c m x
    sends_turn level = elim (cases_lt k boards) [
      | inl h ↦ cond-true _ _ _ (lt-ltb k boards h) ∙ sending_in rules end m x h t.words_wide rows₀ rows level t.stands sent (number_is h)
      | inr h ↦ cond-false _ _ _ (le-ltb k boards h) ∙ sym (sending_out rules end m x h)
    ]

    module _ (batch : List Message) (batch-is : batch ≡ sending c m x) (sent' : List ℕ) (sent_is : sent' ≡ sent_after rules sent x (length batch)) where
      pub sent_turn : take boards sent' ≡ m'.sent
      sent_turn = elim (cases_lt k boards) [
        | inl h ↦
            ap (take boards) (sent_is ∙ cond-true _ _ _ (lt-ltb k boards h))
            ∙ take-set-lt boards sent k (get_or sent k 0 + length batch) h
            ∙ ap (λ (ns : List ℕ). set ns k (get_or sent k 0 + length batch)) t.numbered
            ∙ ap (λ (j : ℕ). set m.sent k (j + length batch)) (number_is h)
            ∙ ap (λ (b : List Message). set m.sent k (get_or m.sent k 0 + length b)) batch-is
        | inr h ↦ ap (take boards) (sent_is ∙ cond-false _ _ _ (le-ltb k boards h)) ∙ t.numbered ∙ sym (sent_out rules end m x h sent_long)
      ]

      batch_short : length batch ≤ 2
      batch_short = omega (arith, ap length batch-is, sending_short rules end m x)

      long_turn : length sent' ≡ 8
      long_turn = elim (cases_lt k boards) [
        | inl h ↦ ap length (sent_is ∙ cond-true _ _ _ (lt-ltb k boards h)) ∙ length-set sent k _ ∙ t.sent_wide
        | inr h ↦ ap length (sent_is ∙ cond-false _ _ _ (le-ltb k boards h)) ∙ t.sent_wide
      ]

      few_turn : (j : ℕ) → get_or sent' j 0 ≤ 2 * (n + 1)
      few_turn j = elim (cases_lt k boards) [
        | inl h ↦
            let e : get_or sent' j 0 ≡ get_or (set sent k (get_or sent k 0 + length batch)) j 0 = ap (λ (ns : List ℕ). get_or ns j 0) (sent_is ∙ cond-true _ _ _ (lt-ltb k boards h)) in
            elim (cases_eq j k) [
              | inl s ↦
                  let at : get_or (set sent k (get_or sent k 0 + length batch)) j 0 ≡ get_or sent k 0 + length batch = ap (λ (i : ℕ). get_or (set sent k (get_or sent k 0 + length batch)) i 0) s ∙ get_or-set_same sent k _ 0 (omega (arith, t.sent_wide)) in
                  omega (arith, e, at, t.few k, batch_short)
              | inr d ↦ omega (arith, e, get_or-set_other sent k j (get_or sent k 0 + length batch) 0 d, t.few j)
            ]
        | inr h ↦ omega (arith, ap (λ (ns : List ℕ). get_or ns j 0) (sent_is ∙ cond-false _ _ _ (le-ltb k boards h)), t.few j)
      ]

      pending_is : less ++ batch ≡ m'.pending
      pending_is = ap (λ (ms : List Message). without_one message_before x ms ++ batch) t.waits ∙ ap (λ (b : List Message). without_one message_before x m.pending ++ b) batch-is

      pub pending_turn : (left : ℕ) (pending₁ pending' : List Message) → left ≡ length less → pending₁ ≡ in_front less pending → pending' ≡ in_front (take left pending₁ ++ batch) pending₁ → pending' ≡ in_front m'.pending pending
      pending_turn left pending₁ pending' left_is first then =
          then
          ∙ ap (λ (row : List Message). in_front (row ++ batch) pending₁) (ap (take left) first ∙ take_in_front less pending left (sym left_is))
          ∙ ap (in_front (less ++ batch)) first
          ∙ front_over (less ++ batch) less pending (omega (arith, length-append less batch))
          ∙ ap (λ (row : List Message). in_front row pending) pending_is

      pub tied_turn : length rows₀ ≡ length rules → (left held' : ℕ) (pending' : List Message) (rows' : List Row) → n < length log₀ →
          left ≡ length less → held' ≡ left + length batch → pending' ≡ in_front m'.pending pending → held' ≤ length pending' →
          rows' ≡ rows_after rules rows x →
          Tied m' (n + 1) held' rows' sent' pending' (set log n x)
      tied_turn level left held' pending' rows' room left_is held-now then fits rows_are = record {
        logged = ap (λ (l : List Message). set l n x) t.logged ∙ front_push m.log log₀ n x t.lined room;
        lined = length_push m.log x ∙ ap (λ (j : ℕ). j + 1) t.lined;
        waits = ap (take held') then ∙ take_in_front m'.pending pending held' (sym (held-now ∙ ap (λ (j : ℕ). j + length batch) left_is ∙ sym (length-append less batch) ∙ ap length pending_is));
        within = fits;
        stands = rows_are ∙ rows_turn level;
        words_wide = length-set m.words k _ ∙ t.words_wide;
        numbered = sent_turn;
        sent_wide = long_turn;
        few = few_turn;
      }

-- The lines of a commit, written one after the other.
use Rattle.std.proofs.Common.{◌≡◌, ℕ, zero, suc, ◌+◌, ◌-◌, ◌<◌, ◌≤◌, List, [], ◌∷◌, ◌++◌, length, take, drop, set, Some, None, Option, sym, refl, ap, ◌∙◌, append_assoc, arith}
use Rattle.std.proofs.lemmas.List.{take_more_set, drop-set-lt, drop-drop, append-nil}
use Rattle.bus.specs.declared.Message.{Message}
use Rattle.model.specs.declared.front.Front.{Front}
use Rattle.model.specs.State.{State}
use Rattle.model.specs.Lines.{next_line, after_line, line_of, state_after, lines_after}
use Rattle.bench.specs.Logs.{message_of}

line_some : (nl : Option Front) (m : Message) → Some m ≡ message_of nl → line_of nl ≡ m ∷ []
line_some None m e = let z : ◌≡◌ {A = ℕ} 0 1 = cc in absurd (omega arith)
line_some (Some f) m e = let z : m ≡ f.message = cc in ap (λ (x : Message). x ∷ []) (sym z)

line_none : (nl : Option Front) → None ≡ message_of nl → nl ≡ None
line_none None e = refl
line_none (Some f) e = let z : ◌≡◌ {A = ℕ} 0 1 = cc in absurd (omega arith)

state_none : (o : Option Message) (k : ℕ) (s : State) → next_line o s ≡ None → state_after o k s ≡ s
state_none o zero s e = refl
state_none o (suc k) s e = ap (λ (x : Option Front). state_after o k (after_line s x)) e ∙ state_none o k s e

lines_none : (o : Option Message) (k : ℕ) (s : State) → next_line o s ≡ None → lines_after o k s ≡ []
lines_none o zero s e = refl
lines_none o (suc k) s e = ap (λ (x : Option Front). line_of x ++ lines_after o k (after_line s x)) e ∙ lines_none o k s e

-- what holds once i lines are written
pub record Written (o : Option Message) (s₀ : State) (log₀ : List Message) (i : ℕ) (s : State) (log : List Message) : Type 0 where
  pub state : state_after o (length log₀) s₀ ≡ state_after o (length log₀ - i) s
  pub lines : lines_after o (length log₀) s₀ ≡ take i log ++ lines_after o (length log₀ - i) s
  pub rest : drop i log ≡ drop i log₀

module _ (o : Option Message) (s₀ : State) (log₀ : List Message) where
  pub written_none : Written o s₀ log₀ 0 s₀ log₀
  written_none =
      let z : length log₀ ≡ length log₀ - 0 = omega arith in
      record { state = ap (λ (k : ℕ). state_after o k s₀) z; lines = ap (λ (k : ℕ). lines_after o k s₀) z; rest = refl }

  module _ (i : ℕ) (s : State) (log : List Message) (same : length log ≡ length log₀) (w : Written o s₀ log₀ i s log) where
    pub written_more : (m : Message) (s' : State) → i < length log₀ → Some m ≡ message_of (next_line o s) → s' ≡ after_line s (next_line o s) → Written o s₀ log₀ (i + 1) s' (set log i m)
    written_more m s' lt em es =
        let k = length log₀ - (i + 1) in
        let n : length log₀ - i ≡ suc k = omega arith in
        record {
          state = w.state ∙ ap (λ (x : ℕ). state_after o x s) n ∙ ap (state_after o k) (sym es);
          lines = w.lines ∙ ap (λ (x : ℕ). take i log ++ lines_after o x s) n
              ∙ ap (λ (x : List Message). take i log ++ (x ++ lines_after o k (after_line s (next_line o s)))) (line_some (next_line o s) m em)
              ∙ sym (append_assoc (take i log) (m ∷ []) (lines_after o k (after_line s (next_line o s))))
              ∙ ap (λ (x : List Message). x ++ lines_after o k (after_line s (next_line o s))) (sym (take_more_set log i m (omega arith)))
              ∙ ap (λ (x : State). take (i + 1) (set log i m) ++ lines_after o k x) (sym es);
          rest = drop-set-lt (i + 1) log i m (omega arith) ∙ sym (drop-drop 1 i log) ∙ ap (drop 1) w.rest ∙ drop-drop 1 i log₀;
        }

    pub written_stop : (s' : State) → i ≤ length log₀ → None ≡ message_of (next_line o s) → s' ≡ after_line s (next_line o s)
        → (s' ≡ state_after o (length log₀) s₀) × (take i log ≡ lines_after o (length log₀) s₀)
    written_stop s' le em es =
        let none = line_none (next_line o s) em in
        let k = length log₀ - i in (
          es ∙ ap (after_line s) none ∙ sym (w.state ∙ state_none o k s none),
          sym (w.lines ∙ ap (λ (x : List Message). take i log ++ x) (lines_none o k s none) ∙ append-nil (take i log)),
        )

    pub written_all : length log₀ ≤ i → (s ≡ state_after o (length log₀) s₀) × (take i log ≡ lines_after o (length log₀) s₀)
    written_all le =
        let n : length log₀ - i ≡ 0 = omega arith in (
          sym (w.state ∙ ap (λ (x : ℕ). state_after o x s) n),
          sym (w.lines ∙ ap (λ (x : ℕ). take i log ++ lines_after o x s) n ∙ append-nil (take i log)),
        )

-- A run with room enough ends where the machine is after the most lines.
use Rattle.std.proofs.Common.{◌≡◌, ℕ, zero, suc, ◌+◌, ◌-◌, ◌≤◌, leb, List, [], length, Some, None, Ok, Err, Option, sym, refl, ap, ◌∙◌, subst, inl, inr, arith}
use Rattle.std.proofs.lemmas.Bool.{cases_Bool, leb-true, leb-false, cond-false}
use Rattle.std.proofs.lemmas.List.{length-append}
use Rattle.rows.specs.Rows.{least, without_one}
use Rattle.rows.specs.Theorems.{LeastTold}
use Rattle.rows.proofs.Minimum.{least_told}
use Rattle.bus.specs.declared.Message.{Message}
use Rattle.bus.specs.declared.Words.{Words}
use Rattle.bus.specs.Order.{message_before, message_total}
use Rattle.bus.specs.Reactions.{Rule}
use Rattle.sequential.specs.declared.outcome.Ended.{Ended}
use Rattle.sequential.specs.Sequential.{Machine, fresh, sending, step_on, step}
use Rattle.sequential.specs.Laws.{after}
use Rattle.sequential.specs.Runs.{setting_of, next_or, next_in}
use Rattle.sequential.proofs.Firsts.{least_is, length_without_one}
use Rattle.sequential.proofs.Logs.{steps_more, stays}
use Rattle.sequential.proofs.Turns.{sending_short}

module _ (rules : List Rule) (end : ℕ) where
  -- a step takes one message and adds at most two
  pending_step : (m : Machine) → length (step (setting_of rules end) m).pending ≤ length m.pending + 1
  pending_step m = go (least message_before m.pending) refl
    where
      go : (o : Option Message) → least message_before m.pending ≡ o → length (step_on (setting_of rules end) m o).pending ≤ length m.pending + 1
      go None e = omega arith
      go (Some x) e =
          let less = without_one message_before x m.pending in
          let one = length_without_one message_before x m.pending (least_is message_total m.pending x e).stands in
          omega (arith, one, length-append less (sending (setting_of rules end) m x), sending_short rules end m x)

  module _ (starts : List Words) (stimuli : List Message) where
    abbrev at : ℕ → Machine
    at n = after (setting_of rules end) starts stimuli n

    pending_after : (n : ℕ) → length (at n).pending ≤ length stimuli + n
    pending_after zero = omega arith
    pending_after (suc n) =
        let more : length (at (suc n)).pending ≡ length (step (setting_of rules end) (at n)).pending =
        ap (λ (m : Machine). length m.pending) (steps_more (setting_of rules end) n (fresh (setting_of rules end) starts stimuli)) in
        omega (arith, more, pending_step (at n), pending_after n)

    -- a run that had to end after n lines is where the machine is after the most lines
    pub reached : (n places lines : ℕ) (why : Ended) → places ≡ length stimuli + lines → n ≡ length (at n).log → n ≤ lines → next_in places lines (at n) ≡ Err why → at n ≡ at lines
    reached n places lines why room lined upto ended = go (least message_before (at n).pending) refl
      where
        go : (o : Option Message) → least message_before (at n).pending ≡ o → at n ≡ at lines
        go None e =
            let none : (at n).pending ≡ [] = subst (λ (o : Option Message). LeastTold message_before o (at n).pending) e (least_told message_total (at n).pending) in
            let rest : n + (lines - n) ≡ lines = omega arith in
            sym (stays (setting_of rules end) starts stimuli n (lines - n) none) ∙ ap at rest
        go (Some x) e = elim (cases_Bool (leb lines (length (at n).log))) [
          | inl full ↦
              let last : n ≡ lines = omega (arith, leb-true lines (length (at n).log) full) in
              ap at last
          | inr free ↦ elim (cases_Bool (leb places (length (at n).pending))) [
            | inl full ↦ absurd (omega (arith, leb-false lines (length (at n).log) free, leb-true places (length (at n).pending) full, pending_after n))
            | inr place ↦
                let goes : next_in places lines (at n) ≡ Ok x =
                ap (next_or places lines (length (at n).log) (length (at n).pending)) e ∙ cond-false _ _ _ free ∙ cond-false _ _ _ place in
                let both : Ok x ≡ Err why = sym goes ∙ ended in
                let never : ◌≡◌ {A = ℕ} 0 1 = cc in
                absurd (omega arith)
          ]
        ]

-- One call more.
use Rattle.std.proofs.Common.{◌≡◌, ℕ, ◌+◌, ◌<◌, ◌≤◌, List, [], ◌∷◌, ◌++◌, length, get_or, take, Some, None, Option, sym, ap, ◌∙◌, append_assoc, append-nil, arith}
use Rattle.std.specs.Option.{option_to_list}
use Rattle.std.proofs.lemmas.List.{take_more, length-append, length-take, length-take-le}
use Rattle.bus.specs.declared.Message.{Message}
use Rattle.schedule.specs.declared.call.Call.{Call}
use Rattle.oracle.specs.declared.offers.Refusal.{Refusal}
use Rattle.oracle.specs.Offers.{refusal_of, stimulus_of, stimuli_from}
use Rattle.oracle.specs.Texts.{refusal_line, refusals_from}

-- ---- a refused offer

refusals_push : (end n : ℕ) (xs : List Call) (call : Call) → refusals_from end n (xs ++ call ∷ []) ≡ refusals_from end n xs ++ refusal_line (n + length xs) (refusal_of end call)
refusals_push end n [] call =
    let none : n ≡ n + 0 = omega arith in
    append-nil (refusal_line n (refusal_of end call)) ∙ ap (λ i. refusal_line i (refusal_of end call)) none
refusals_push end n (x ∷ xs) call =
    let next : n + 1 + length xs ≡ n + length (x ∷ xs) = omega arith in
    let first = refusal_line n (refusal_of end x) in
    ap (λ l. first ++ l) (refusals_push end (n + 1) xs call ∙ ap (λ i. refusals_from end (n + 1) xs ++ refusal_line i (refusal_of end call)) next)
    ∙ sym (append_assoc first (refusals_from end (n + 1) xs) (refusal_line (n + length (x ∷ xs)) (refusal_of end call)))

pub refusals_more : (end : ℕ) (before text more : List ℕ) (calls : List Call) (i : ℕ) (d : Call) (o : Option Refusal) → i < length calls → text ≡ before ++ refusals_from end 0 (take i calls) → o ≡ refusal_of end (get_or calls i d) → more ≡ text ++ refusal_line i o → more ≡ before ++ refusals_from end 0 (take (i + 1) calls)
refusals_more end before text more calls i d o h sofar found wrote =
    let call = get_or calls i d in
    let place : i ≡ 0 + length (take i calls) = omega (arith, length-take-le i calls (omega arith)) in
    wrote
    ∙ ap (λ l. l ++ refusal_line i o) sofar
    ∙ append_assoc before (refusals_from end 0 (take i calls)) (refusal_line i o)
    ∙ ap (λ l. before ++ l) (
    ap (λ r. refusals_from end 0 (take i calls) ++ refusal_line i r) found
    ∙ ap (λ k. refusals_from end 0 (take i calls) ++ refusal_line k (refusal_of end call)) place
    ∙ sym (ap (refusals_from end 0) (take_more calls i d h) ∙ refusals_push end 0 (take i calls) call)
    )

-- ---- a stimulus

stimuli_push : (end n : ℕ) (xs : List Call) (call : Call) → stimuli_from end n (xs ++ call ∷ []) ≡ stimuli_from end n xs ++ option_to_list (stimulus_of end (n + length (stimuli_from end n xs)) call)
stimuli_push end n [] call =
    let none : n ≡ n + 0 = omega arith in
    append-nil (option_to_list (stimulus_of end n call)) ∙ ap (λ i. option_to_list (stimulus_of end i call)) none
stimuli_push end n (x ∷ xs) call =
    let first = option_to_list (stimulus_of end n x) in
    let rest = stimuli_from end (n + length first) xs in
    let next : n + length first + length rest ≡ n + length (first ++ rest) = omega (arith, length-append first rest) in
    ap (λ l. first ++ l) (stimuli_push end (n + length first) xs call ∙ ap (λ i. rest ++ option_to_list (stimulus_of end i call)) next)
    ∙ sym (append_assoc first rest (option_to_list (stimulus_of end (n + length (first ++ rest)) call)))

pub stimuli_more : (end : ℕ) (sofar more : List Message) (calls : List Call) (i k : ℕ) (d : Call) (o : Option Message) → i < length calls → sofar ≡ stimuli_from end 0 (take i calls) → k ≡ length sofar → o ≡ stimulus_of end k (get_or calls i d) → more ≡ sofar ++ option_to_list o → more ≡ stimuli_from end 0 (take (i + 1) calls)
stimuli_more end sofar more calls i k d o h is counted found put =
    let call = get_or calls i d in
    let all = stimuli_from end 0 (take i calls) in
    let place : k ≡ 0 + length all = omega (arith, ap length is) in
    put
    ∙ ap (λ l. l ++ option_to_list o) is
    ∙ ap (λ p. all ++ option_to_list p) (found ∙ ap (λ n. stimulus_of end n call) place)
    ∙ sym (ap (stimuli_from end 0) (take_more calls i d h) ∙ stimuli_push end 0 (take i calls) call)

-- there are no more stimuli than calls
at_most_one : {X : Type 0} (o : Option X) → length (option_to_list o) ≤ 1
at_most_one None = omega arith
at_most_one (Some x) = omega arith

stimuli_short : (end n : ℕ) (calls : List Call) → length (stimuli_from end n calls) ≤ length calls
stimuli_short end n [] = omega arith
stimuli_short end n (x ∷ xs) =
    let first = option_to_list (stimulus_of end n x) in
    let rest = stimuli_short end (n + length first) xs in
    omega (arith, rest, at_most_one (stimulus_of end n x), length-append first (stimuli_from end (n + length first) xs))

pub stimuli_fit : (end : ℕ) (sofar : List Message) (calls : List Call) (i : ℕ) → length calls ≤ 60000 → sofar ≡ stimuli_from end 0 (take i calls) → length sofar ≤ 60000
stimuli_fit end sofar calls i few is = omega (arith, ap length is, stimuli_short end 0 (take i calls), length-take i calls)

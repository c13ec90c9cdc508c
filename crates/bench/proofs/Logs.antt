-- What a commit writes in front of a log.
use Rattle.std.proofs.Common.{◌≡◌, ℕ, ◌≤◌, List, ◌++◌, length, take, drop, sym, ap, ◌∙◌, arith}
use Rattle.std.proofs.lemmas.List.{append_assoc, length-take-le, take-append-drop, drop-append-le}
use Rattle.bus.specs.declared.Message.{Message}
use Rattle.model.specs.declared.outcome.Outcome.{Outcome}
use Rattle.model.specs.declared.outcome.Outcome.TheVariants.{Committed}
use Rattle.model.specs.State.{State, Answer, committed}
use Rattle.model.specs.Commit.{commit, lines_of_commit}
use Rattle.model.specs.Perform.{lines_of}
use Rattle.rows.specs.Rows.{in_front}
use Rattle.bench.specs.Logs.{commit_into, put_into}

-- the first lines of the log are those of the commit, and the rest stays
pub commit_is : (s s' : State) (n : ℕ) (log log₀ : List Message) → (s', committed (take n log)) ≡ commit s (length log₀) → n ≤ length log → drop n log ≡ drop n log₀ → (s', n, log) ≡ commit_into log₀ s
commit_is s s' n log log₀ e within rest =
    let ls = lines_of_commit s (length log₀) in
    let es : s' ≡ (commit s (length log₀)).0 = ap (λ (x : State × Answer). x.0) e in
    let el : take n log ≡ ls = ap (λ (x : State × Answer). lines_of x.1) e in
    let en : n ≡ length ls = sym (length-take-le n log within) ∙ ap length el in
    let eg : log ≡ in_front ls log₀ =
    sym (take-append-drop n log) ∙ ap (λ (x : List Message). x ++ drop n log) el ∙ ap (λ (x : List Message). ls ++ x) rest ∙ ap (λ (k : ℕ). ls ++ drop k log₀) en in
    let F : State → ℕ → List Message → State × ℕ × List Message = λ x y z. (x, y, z) in
    ap (λ (x : State). F x n log) es ∙ ap (λ (x : ℕ). F (commit s (length log₀)).0 x log) en ∙ ap (F (commit s (length log₀)).0 (length ls)) eg

-- a commit into the first part of a log
pub commit_in_part : (s s' : State) (n m : ℕ) (log last : List Message) → m ≤ length log → n ≤ m → (s', n, last) ≡ commit_into (take m log) s → (s', Committed n, last ++ drop m log) ≡ put_into log (commit s m)
commit_in_part s s' n m log last ml nm e =
    let part = take m log in
    let ls = lines_of_commit s m in
    let lm : length part ≡ m = length-take-le m log ml in
    let K : ℕ → State × ℕ × List Message = λ k. ((commit s k).0, length (lines_of_commit s k), in_front (lines_of_commit s k) part) in
    let e' : (s', n, last) ≡ K m = e ∙ ap K lm in
    let es : s' ≡ (commit s m).0 = ap (λ (x : State × ℕ × List Message). x.0) e' in
    let en : n ≡ length ls = ap (λ (x : State × ℕ × List Message). x.1) e' in
    let el : last ≡ in_front ls part = ap (λ (x : State × ℕ × List Message). x.2) e' in
    let eg : last ++ drop m log ≡ in_front ls log =
    ap (λ (x : List Message). x ++ drop m log) el ∙ append_assoc ls (drop (length ls) part) (drop m log)
    ∙ ap (λ (x : List Message). ls ++ x) (sym (drop-append-le (length ls) part (drop m log) (omega (arith, lm, en, nm))) ∙ ap (drop (length ls)) (take-append-drop m log)) in
    let F : State → ℕ → List Message → State × Outcome × List Message = λ x y z. (x, Committed y, z) in
    ap (λ (x : State). F x n (last ++ drop m log)) es ∙ ap (λ (x : ℕ). F (commit s m).0 x (last ++ drop m log)) en ∙ ap (F (commit s m).0 (length ls)) eg

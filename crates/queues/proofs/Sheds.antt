-- What a commit leaves of a board's queues.
use Rattle.std.proofs.Common.{◌≡◌, ℕ, zero, suc, ◌+◌, ◌<◌, ◌≤◌, List, [], ◌∷◌, ◌++◌, length, get_or, take, drop, sym, ap, ◌∙◌, append-nil, arith}
use Rattle.std.proofs.lemmas.List.{length-take-le, drop-map}
use Rattle.bus.specs.declared.Message.{Message}
use Rattle.bus.specs.declared.Sent.{Sent}
use Rattle.model.specs.State.{Queues}
use Rattle.model.specs.Commit.{shed}
use Rattle.queues.specs.Sums.{sum}
use Rattle.queues.specs.Memory.{messages_of}
use Rattle.queues.specs.Entries.{events}

-- ---- small numbers

pub small_take : (n : ℕ) (xs : List ℕ) → ((k : ℕ) → get_or xs k 0 ≤ 2) → (k : ℕ) → get_or (take n xs) k 0 ≤ 2
small_take zero xs h k = omega arith
small_take (suc n) [] h k = omega arith
small_take (suc n) (x ∷ xs) h zero = h 0
small_take (suc n) (x ∷ xs) h (suc k) = small_take n xs (λ i. h (suc i)) k

pub small_drop : (n : ℕ) (xs : List ℕ) → ((k : ℕ) → get_or xs k 0 ≤ 2) → (k : ℕ) → get_or (drop n xs) k 0 ≤ 2
small_drop zero xs h k = h k
small_drop (suc n) [] h k = omega arith
small_drop (suc n) (x ∷ xs) h k = small_drop n xs (λ i. h (suc i)) k

pub small_push : (xs : List ℕ) (y : ℕ) → ((k : ℕ) → get_or xs k 0 ≤ 2) → y ≤ 2 → (k : ℕ) → get_or (xs ++ y ∷ []) k 0 ≤ 2
small_push [] y h le zero = le
small_push [] y h le (suc k) = omega arith
small_push (x ∷ xs) y h le zero = h 0
small_push (x ∷ xs) y h le (suc k) = small_push xs y (λ i. h (suc i)) le k

-- ---- the first event goes

pub shed_is : (ms : List Message) (ns : List ℕ) (outs : List Sent) (early : List Message) (sent : ℕ) → 0 < length ns → length ns ≤ length ms → sum ns ≡ length (messages_of outs) → (let g = get_or ns 0 0 in
    ◌≡◌ {A = Queues}
    (record {
      standing = events (take (length (drop 1 ns)) (drop 1 ms)) (drop 1 ns) (messages_of (drop g outs));
      open_ones = drop (length (drop 1 ns)) (drop 1 ms);
      early = early;
      sent = sent + g;
    })
    (shed 1 (record { standing = events (take (length ns) ms) ns (messages_of outs); open_ones = drop (length ns) ms; early = early; sent = sent })))
shed_is ms [] outs early sent lt le tally = absurd (omega arith)
shed_is [] (n ∷ ns) outs early sent lt le tally = absurd (omega arith)
shed_is (m ∷ ms) (n ∷ ns) outs early sent lt le tally =
    let f : Sent → Message = λ x. x.message in
    let few : n ≤ length (messages_of outs) = omega arith in
    let F : List Message → ℕ → Queues = λ x y. record { standing = events (take (length ns) ms) ns x; open_ones = drop (length ns) ms; early = early; sent = sent + y } in
    ap (λ x. F x n) (sym (drop-map f n outs))
    ∙ ap (F (drop n (messages_of outs))) (sym (ap length (append-nil (take n (messages_of outs))) ∙ length-take-le n (messages_of outs) few))

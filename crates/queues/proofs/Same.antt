-- Queues by what their rows hold.
use Rattle.std.proofs.Common.{◌≡◌, ℕ, ◌+◌, ◌≤◌, List, [], ◌∷◌, ◌++◌, length, get_or, take, drop, Some, sym, ap, ◌∙◌, append_assoc, arith}
use Rattle.std.proofs.lemmas.List.{take-take, take_at, drop_at, drop-take, drop-drop, take-append-drop, length-take-le}
use Rattle.rows.specs.Rows.{without}
use Rattle.bus.specs.declared.Message.{Message}
use Rattle.bus.specs.declared.Sent.{Sent}
use Rattle.model.specs.State.{Queues}
use Rattle.queues.specs.Memory.{messages_of}
use Rattle.queues.specs.Entries.{events, first_message}

-- the queues whose in-row, counts of sends, out-row and early anti-messages are these
abbrev pub queues : List Message → List ℕ → List Sent → List Message → ℕ → Queues
queues ms ns outs early sent = record {
  standing = events (take (length ns) ms) ns (messages_of outs);
  open_ones = drop (length ns) ms;
  early = early;
  sent = sent;
}

pub same_queues : (ms ms' : List Message) (ns ns' : List ℕ) (outs outs' : List Sent) (early early' : List Message) (sent sent' : ℕ) → ms ≡ ms' → ns ≡ ns' → outs ≡ outs' → early ≡ early' → sent ≡ sent' → queues ms ns outs early sent ≡ queues ms' ns' outs' early' sent'
same_queues ms ms' ns ns' outs outs' early early' sent sent' a b c d e =
    ap (λ x. queues x ns outs early sent) a ∙ ap (λ x. queues ms' x outs early sent) b ∙ ap (λ x. queues ms' ns' x early sent) c
    ∙ ap (λ x. queues ms' ns' outs' x sent) d ∙ ap (λ x. queues ms' ns' outs' early' x) e

-- an in-row of which only the part behind the standing messages is another
pub open_part : (ms others : List Message) (ns : List ℕ) (outs : List Sent) (early : List Message) (sent : ℕ) → length ns ≤ length ms →
    queues (take (length ns) ms ++ others) ns outs early sent ≡ record { standing = events (take (length ns) ms) ns (messages_of outs); open_ones = others; early = early; sent = sent }
open_part ms others ns outs early sent le =
    let A = take (length ns) ms in
    let l = length-take-le (length ns) ms le in
    let F : List Message → List Message → Queues = λ x y. record { standing = events x ns (messages_of outs); open_ones = y; early = early; sent = sent } in
    ap (λ x. F x (drop (length ns) (A ++ others))) (take_at A others (length ns) l) ∙ ap (F A) (drop_at A others (length ns) l)

-- a row without a record behind a place
pub without_behind : {X : Type 0} (xs : List X) (s at : ℕ) → without (s + at) xs ≡ take s xs ++ without at (drop s xs)
without_behind xs s at =
    let front : take (s + at) xs ≡ take s xs ++ take at (drop s xs) =
    sym (take-append-drop s (take (s + at) xs)) ∙ ap (λ zs. zs ++ drop s (take (s + at) xs)) (take-take s (s + at) xs (omega arith))
    ∙ ap (λ zs. take s xs ++ zs) (drop-take s at xs) in
    let back : drop (s + at + 1) xs ≡ drop (at + 1) (drop s xs) = ap (λ k. drop k xs) (omega arith) ∙ sym (drop-drop (at + 1) s xs) in
    ap (λ zs. zs ++ drop (s + at + 1) xs) front ∙ ap (λ zs. (take s xs ++ take at (drop s xs)) ++ zs) back
    ∙ append_assoc (take s xs) (take at (drop s xs)) (drop (at + 1) (drop s xs))

pub first_is : (xs : List Message) (m : Message) → Some m ≡ first_message xs → xs ≡ m ∷ drop 1 xs
first_is [] m e = absurd (let z : ◌≡◌ {A = ℕ} 0 1 = cc in omega arith)
first_is (x ∷ xs) m e = let k : x ≡ m = cc in ap (λ y. y ∷ xs) k

pub twos_by : (xs ys : List ℕ) → xs ≡ ys → ((k : ℕ) → get_or ys k 0 ≤ 2) → (k : ℕ) → get_or xs k 0 ≤ 2
twos_by xs ys e h k = omega (arith, ap (λ zs. get_or zs k 0) e, h k)

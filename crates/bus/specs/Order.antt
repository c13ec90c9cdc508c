-- The order of messages, and of sent records, by their keys; both are total.
use Rattle.std.specs.Prelude.{◌≡◌, ℕ, Bool, List, [], ◌∷◌, nat_lt}
use Rattle.rows.specs.Order.{Total, by_key, first_then}
use Rattle.rows.specs.Numbers.{total_numbers}
use Rattle.rows.proofs.Keys.{total_by_key, total_first_then}
use Rattle.bus.specs.declared.Message.{Message}
use Rattle.bus.specs.declared.Sent.{Sent}

abbrev pub message_key : Message → List ℕ
message_key m = m.time ∷ m.source ∷ m.number ∷ m.destination ∷ m.kind ∷ m.payload ∷ []

-- no two messages have one key
message_apart : (x y : Message) → message_key x ≡ message_key y → x ≡ y
message_apart x y h =
    let t : x.time ≡ y.time = cc in
    let s : x.source ≡ y.source = cc in
    let n : x.number ≡ y.number = cc in
    let d : x.destination ≡ y.destination = cc in
    let k : x.kind ≡ y.kind = cc in
    let p : x.payload ≡ y.payload = cc in
    λ i. record { time = t i; source = s i; number = n i; destination = d i; kind = k i; payload = p i }

-- the order of messages
abbrev pub message_before : Message → Message → Bool
message_before = by_key message_key

pub message_total : Total message_before
message_total = total_by_key message_key message_apart

-- by the message's number, then its cause, then the message
abbrev pub sent_before : Sent → Sent → Bool
sent_before = first_then (λ s. s.message.number) nat_lt (λ s. s) (first_then (λ s. s.cause) message_before (λ s. s.message) message_before)

pub sent_total : Total sent_before
sent_total =
    total_first_then (λ s. s.message.number) total_numbers (λ s. s)
    (total_first_then (λ s. s.cause) message_total (λ s. s.message) message_total (λ x y c m. λ i. record { message = m i; cause = c i }))
    (λ x y n e. e)

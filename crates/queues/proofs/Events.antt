-- Standing events, split off the outputs.
use Rattle.std.proofs.Common.{◌≡◌, ℕ, zero, suc, ◌+◌, ◌*◌, ◌<◌, ◌≤◌, List, [], ◌∷◌, ◌++◌, length, get_or, take, drop, sym, refl, ap, ◌∙◌, arith, length-append, length-drop}
use Rattle.std.proofs.lemmas.List.{length-map, length-take-le, take-append-le, drop-append-le, take_all, take-take, drop-take, drop-drop, take-append-drop, nil_from_length}
use Rattle.bus.specs.declared.Message.{Message}
use Rattle.addressing.specs.Batches.{Batch}
use Rattle.bus.specs.declared.up_to_two.UpToTwo.TheVariants.{Nothing, One, Two}
use Rattle.rows.specs.Held.{held}
use Rattle.queues.specs.Sums.{sum}
use Rattle.bus.specs.Reactions.{listed}
use Rattle.model.specs.State.{Event, Queues, sends_of}
use Rattle.queues.specs.Entries.{events, first_stands, outputs_of}
use Rattle.bus.specs.declared.Sent.{Sent}
use Rattle.queues.specs.declared.board.BoardQueues.{BoardQueues}
use Rattle.queues.specs.Memory.{messages_of, sent_by}

pub batch_small : (b : Batch) → length (listed b) ≤ 2
batch_small Nothing = omega arith
batch_small (One a) = omega arith
batch_small (Two a b) = omega arith

pub sum_twos : (xs : List ℕ) (n : ℕ) → ((k : ℕ) → get_or xs k 0 ≤ 2) → sum (take n xs) ≤ 2 * n
sum_twos xs zero h = omega arith
sum_twos [] (suc n) h = omega arith
sum_twos (x ∷ xs) (suc n) h = omega (arith, h 0, sum_twos xs n (λ k. h (suc k)))

pub sum_push : (xs : List ℕ) (y : ℕ) → sum (xs ++ (y ∷ [])) ≡ sum xs + y
sum_push [] y = omega arith
sum_push (x ∷ xs) y = omega (arith, sum_push xs y)

pub sends_of_events : (ms : List Message) (ns : List ℕ) (out : List Message) → length ms ≡ length ns → sum ns ≡ length out → sends_of (events ms ns out) ≡ out
sends_of_events [] [] out e s = sym (nil_from_length out (sym s))
sends_of_events [] (n ∷ ns) out e s = absurd (omega arith)
sends_of_events (m ∷ ms) [] out e s = absurd (omega arith)
sends_of_events (m ∷ ms) (n ∷ ns) out e s =
    ap (λ (xs : List Message). take n out ++ xs)
    (sends_of_events ms ns (drop n out) (omega arith) (let h = length-drop n out in omega arith))
    ∙ take-append-drop n out

pub events_push : (ms : List Message) (ns : List ℕ) (out : List Message) (m : Message) (n : ℕ) (new : List Message)
    → length ms ≡ length ns → sum ns ≡ length out → n ≡ length new
    → events (ms ++ (m ∷ [])) (ns ++ (n ∷ [])) (out ++ new) ≡ events ms ns out ++ (record { message = m; sends = new } ∷ [])
events_push [] [] out m n new e s l =
    let o : out ≡ [] = nil_from_length out (sym s) in
    let t : take n (out ++ new) ≡ new = rw o (take_all n new (omega arith)) in
    let f : List Message → List Event = λ xs. record { message = m; sends = xs } ∷ [] in
    ap f t
events_push [] (x ∷ ns) out m n new e s l = absurd (omega arith)
events_push (x ∷ ms) [] out m n new e s l = absurd (omega arith)
events_push (x ∷ ms) (y ∷ ns) out m n new e s l =
    let le : y ≤ length out = omega arith in
    let t = take-append-le y out new le in
    let d = drop-append-le y out new le in
    let r = events_push ms ns (drop y out) m n new (omega arith) (let h = length-drop y out in omega arith) l in
    let f : List Message → List Event = λ xs. record { message = x; sends = xs } ∷ events (ms ++ (m ∷ [])) (ns ++ (n ∷ [])) (drop y (out ++ new)) in
    let g : List Message → List Event = λ xs. record { message = x; sends = take y out } ∷ events (ms ++ (m ∷ [])) (ns ++ (n ∷ [])) xs in
    let h : List Event → List Event = λ es. record { message = x; sends = take y out } ∷ es in
    ap f t ∙ ap g d ∙ ap h r

take_push : (ms : List Message) (s : ℕ) (m : Message) (rest : List Message) → drop s ms ≡ m ∷ rest → take (s + 1) ms ≡ take s ms ++ (m ∷ [])
take_push ms s m rest e =
    sym (take-append-drop s (take (s + 1) ms)) ∙ ap (λ zs. zs ++ drop s (take (s + 1) ms)) (take-take s (s + 1) ms (omega arith))
    ∙ ap (λ zs. take s ms ++ zs) (drop-take s 1 ms ∙ ap (take 1) e)

drop_push : (ms : List Message) (s : ℕ) (m : Message) (rest : List Message) → drop s ms ≡ m ∷ rest → drop (s + 1) ms ≡ rest
drop_push ms s m rest e = ap (λ k. drop k ms) (omega arith) ∙ sym (drop-drop 1 s ms) ∙ ap (drop 1) e

-- one more event
pub stand_is : (ms : List Message) (ns : List ℕ) (outs : List Message) (m : Message) (rest early : List Message) (sent : ℕ) (new : List Message)
    → drop (length ns) ms ≡ m ∷ rest → length ns ≤ length ms → sum ns ≡ length outs
    → ◌≡◌ {A = Queues}
    (record { standing = events (take (length (ns ++ (length new ∷ []))) ms) (ns ++ (length new ∷ [])) (outs ++ new); open_ones = drop (length (ns ++ (length new ∷ []))) ms; early = early; sent = sent })
    (first_stands new (record { standing = events (take (length ns) ms) ns outs; open_ones = drop (length ns) ms; early = early; sent = sent }))
stand_is ms ns outs m rest early sent new at_hand within tally =
    let s = length ns in
    let l : length (ns ++ (length new ∷ [])) ≡ s + 1 = length-append ns (length new ∷ []) in
    let lt : s < length ms = omega (arith, ap length at_hand, length-drop s ms) in
    let front : take (s + 1) ms ≡ take s ms ++ (m ∷ []) = take_push ms s m rest at_hand in
    let back : drop (s + 1) ms ≡ rest = drop_push ms s m rest at_hand in
    let whole : events (take (length (ns ++ (length new ∷ []))) ms) (ns ++ (length new ∷ [])) (outs ++ new) ≡ events (take s ms) ns outs ++ (record { message = m; sends = new } ∷ []) =
    ap (λ k. events (take k ms) (ns ++ (length new ∷ [])) (outs ++ new)) l
    ∙ ap (λ zs. events zs (ns ++ (length new ∷ [])) (outs ++ new)) front
    ∙ events_push (take s ms) ns outs m (length new) new (length-take-le s ms within) tally refl in
    let F : List Event → List Message → Queues = λ x y. record { standing = x; open_ones = y; early = early; sent = sent } in
    let g : List Message → Queues = λ xs. first_stands new (F (events (take s ms) ns outs) xs) in
    ap (λ x. F x (drop (length (ns ++ (length new ∷ []))) ms)) whole
    ∙ ap (F (events (take s ms) ns outs ++ (record { message = m; sends = new } ∷ []))) (ap (λ k. drop k ms) l ∙ back)
    ∙ ap g (sym at_hand)

pub kept_within : (q : BoardQueues) → length (held q.outputs) ≤ 64
kept_within q = omega (arith, sum_twos (held q.sends) (length (held q.sends)) q.twos, ap sum (take_all (length (held q.sends)) (held q.sends) (omega arith)), q.tallies, q.fits, q.stands)

pub outputs_length : (q : BoardQueues) → length (outputs_of q) ≡ length (held q.outputs)
outputs_length q = length-map (held q.outputs) (λ (s : Sent). s.message)

pub messages_sent_by : (cause : Message) (ms : List Message) → messages_of (sent_by cause ms) ≡ ms
messages_sent_by cause [] = refl
messages_sent_by cause (m ∷ ms) = ap (λ (xs : List Message). m ∷ xs) (messages_sent_by cause ms)

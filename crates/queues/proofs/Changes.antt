-- What arrivals leave of a board's queues.
use Rattle.std.proofs.Common.{◌≡◌, ℕ, ◌+◌, ◌-◌, ◌≤◌, min, Bool, true, false, cond, List, [], ◌∷◌, ◌++◌, map, length, take, drop, sym, refl, ap, ◌∙◌, append_assoc, arith, length-append, length-drop, length-take}
use Rattle.std.proofs.lemmas.List.{length-map, drop_at, take-take, drop-append-le, take-map, drop-map, take-append-drop}
use Rattle.rows.specs.Held.{held}
use Rattle.rows.proofs.Parts.{take_at_most, drop_at_most}
use Rattle.bus.specs.declared.Message.{Message}
use Rattle.bus.specs.declared.Sent.{Sent}
use Rattle.model.specs.declared.item.Item.{Item}
use Rattle.model.specs.declared.item.Item.TheVariants.{Plus, Minus}
use Rattle.model.specs.State.{Event, Queues, sends_of, standing_of}
use Rattle.model.specs.Deliver.{Arrival, has, not_after, undo, arrive, room}
use Rattle.queues.specs.declared.effect.Effect.{Effect}
use Rattle.queues.specs.declared.board.BoardQueues.{BoardQueues}
use Rattle.queues.specs.Sums.{sum}
use Rattle.queues.specs.Memory.{messages_of}
use Rattle.queues.specs.Entries.{events, queues_of, outputs_of}
use Rattle.queues.specs.Arrivals.{effect_of, stay_by, needs_by}
use Rattle.queues.proofs.Memories.{events_take, even, standing_messages, sends_outputs}
use Rattle.queues.proofs.Searches.{not_after_within}

-- ---- sends of some events

pub sends_append : (es fs : List Event) → sends_of (es ++ fs) ≡ sends_of es ++ sends_of fs
sends_append [] fs = refl
sends_append (e ∷ es) fs = ap (λ zs. e.sends ++ zs) (sends_append es fs) ∙ sym (append_assoc e.sends (sends_of es) (sends_of fs))

pub sends_parts : (p : ℕ) (es : List Event) → sends_of es ≡ sends_of (take p es) ++ sends_of (drop p es)
sends_parts p es = ap sends_of (sym (take-append-drop p es)) ∙ sends_append (take p es) (drop p es)

pub sends_back : (p : ℕ) (es : List Event) → sends_of (drop p es) ≡ drop (length (sends_of (take p es))) (sends_of es)
sends_back p es = sym (ap (drop (length (sends_of (take p es)))) (sends_parts p es) ∙ drop_at (sends_of (take p es)) (sends_of (drop p es)) (length (sends_of (take p es))) refl)

pub sends_count : (p : ℕ) (es : List Event) → length (sends_of es) ≡ length (sends_of (take p es)) + length (sends_of (drop p es))
sends_count p es = ap length (sends_parts p es) ∙ length-append (sends_of (take p es)) (sends_of (drop p es))

-- ---- arrivals

cond_stay : (b : Bool) (x y : Arrival) (e f : Effect) (n : ℕ) → x.stay ≡ stay_by e n → y.stay ≡ stay_by f n → (cond b x y).stay ≡ stay_by (cond b e f) n
cond_stay true x y e f n h k = h
cond_stay false x y e f n h k = k

cond_needs : (b : Bool) (x y : Arrival) (e f : Effect) → x.needs_place ≡ needs_by e → y.needs_place ≡ needs_by f → (cond b x y).needs_place ≡ needs_by (cond b e f)
cond_needs true x y e f h k = h
cond_needs false x y e f h k = k

pub arrive_stay : (item : Item) (q : Queues) → (arrive item q).stay ≡ stay_by (effect_of item q) (length q.standing)
arrive_stay (Plus m) q = cond_stay (has m q.early) _ _ _ _ (length q.standing) refl refl
arrive_stay (Minus m) q = cond_stay (has m q.open_ones) _ _ _ _ (length q.standing) refl (cond_stay (has m (standing_of q)) _ _ _ _ (length q.standing) refl refl)

pub arrive_needs : (item : Item) (q : Queues) → (arrive item q).needs_place ≡ needs_by (effect_of item q)
arrive_needs (Plus m) q = cond_needs (has m q.early) _ _ _ _ refl refl
arrive_needs (Minus m) q = cond_needs (has m q.open_ones) _ _ _ _ refl (cond_needs (has m (standing_of q)) _ _ _ _ refl refl)

cond_within : (b : Bool) (x y : Arrival) (n : ℕ) → x.stay ≤ n → y.stay ≤ n → (cond b x y).stay ≤ n
cond_within true x y n h k = h
cond_within false x y n h k = k

-- no more stay than stand
pub stay_within : (item : Item) (q : Queues) → (arrive item q).stay ≤ length q.standing
stay_within (Plus m) q =
    let n : not_after m q.standing ≤ length q.standing = omega (arith, not_after_within m q.standing) in
    cond_within (has m q.early) _ _ (length q.standing) (omega arith) n
stay_within (Minus m) q =
    let n : not_after m q.standing - 1 ≤ length q.standing = omega (arith, not_after_within m q.standing) in
    cond_within (has m q.open_ones) _ _ (length q.standing) (omega arith) (cond_within (has m (standing_of q)) _ _ (length q.standing) n (omega arith))

pub room_undo : (p : ℕ) (q : Queues) → room (undo p q) ≡ room q
room_undo p q =
    let es = q.standing in
    let a = length-append (map (λ (e : Event). e.message) (drop p es)) q.open_ones in
    let b = length-map (drop p es) (λ (e : Event). e.message) in
    omega (arith, a, b, length-take p es, length-drop p es)

-- ---- a roll-back

-- the queues when only so many events still stand, and the out-row is cut to what they sent
pub rolled : (q : BoardQueues) → (p kept : ℕ) → kept ≡ sum (take p (held q.sends)) →
    ◌≡◌ {A = Queues}
    (record { standing = events (take (length (take p (held q.sends))) (held q.messages)) (take p (held q.sends)) (messages_of (take kept (held q.outputs))); open_ones = drop (length (take p (held q.sends))) (held q.messages); early = held q.early; sent = q.sent })
    (undo p (queues_of q))
rolled q p kept e =
    let M = held q.messages in
    let ns = held q.sends in
    let s = length ns in
    let ms = take s M in
    let f : Sent → Message = λ x. x.message in
    let g : Event → Message = λ x. x.message in
    let n = length (take p ns) in
    let at : n ≡ min p s = length-take p ns in
    let front : take n M ≡ take p ms = sym (take-take n s M (omega arith)) ∙ take_at_most ms p s n (even q) at in
    let outs : messages_of (take kept (held q.outputs)) ≡ take (sum (take p ns)) (outputs_of q) = sym (take-map f kept (held q.outputs)) ∙ ap (λ k. take k (outputs_of q)) e in
    let st : events (take n M) (take p ns) (messages_of (take kept (held q.outputs))) ≡ take p (queues_of q).standing =
    ap (λ x. events x (take p ns) (messages_of (take kept (held q.outputs)))) front ∙ ap (events (take p ms) (take p ns)) outs
    ∙ sym (events_take ms ns (outputs_of q) p) in
    let back : map g (drop p (queues_of q).standing) ≡ drop p ms = sym (drop-map g p (queues_of q).standing) ∙ ap (drop p) (standing_messages q) in
    let ends : drop n M ≡ drop p ms ++ drop s M =
    ap (drop n) (sym (take-append-drop s M)) ∙ drop-append-le n ms (drop s M) (omega (arith, at, even q))
    ∙ ap (λ zs. zs ++ drop s M) (drop_at_most ms p s n (even q) at) in
    let F : List Event → List Message → Queues = λ x y. record { standing = x; open_ones = y; early = held q.early; sent = q.sent } in
    ap (λ x. F x (drop n M)) st
    ∙ ap (F (take p (queues_of q).standing)) (ends ∙ ap (λ x. x ++ drop s M) (sym back))

-- ---- what is recalled

pub recalled_is : (q : BoardQueues) → (p k : ℕ) → k ≡ length (sends_of (take p (queues_of q).standing)) → messages_of (drop k (held q.outputs)) ≡ sends_of (drop p (queues_of q).standing)
recalled_is q p k e =
    let f : Sent → Message = λ x. x.message in
    sym (drop-map f k (held q.outputs)) ∙ ap (λ n. drop n (outputs_of q)) e
    ∙ ap (drop (length (sends_of (take p (queues_of q).standing)))) (sym (sends_outputs q)) ∙ sym (sends_back p (queues_of q).standing)

-- A row whose words are reached again from checkpoints.
use Rattle.std.specs.Prelude.{◌≡◌, ℕ, ◌+◌, ◌-◌, ◌*◌, ◌/◌, ◌%◌, ◌<◌, ◌≤◌, List, [], ◌∷◌, ◌++◌, map, length, get_or, take, drop, Ok, Err, ◌≢◌, slice_index_or, refl}
use Rattle.std.proofs.Common.{sym, ap, ◌∙◌, arith, length-drop, length-append, length-take}
use Rattle.std.proofs.Math.ListN.{get_or-append}
use Rattle.std.proofs.lemmas.Bool.{cond-true, lt-ltb, le-leb}
use Rattle.std.specs.List.{range_with_len}
use Rattle.std.proofs.lemmas.List.FromFn.{length-map-range_with_len, get_or-map-range_with_len, map-range_with_len_more}
use Rattle.std.proofs.lemmas.List.{take_more, take_all, take-take, take-append-le, drop-append-le, drop-drop, drop-take, get_or-drop, get_or-take, get_or-append_right, ext_get_or}
use Rattle.bus.specs.declared.Message.{Message}
use Rattle.bus.specs.declared.Words.{Words}
use Rattle.bus.specs.Reactions.{Sends, Rule, zeros}
use Rattle.savers.specs.declared.refusal.Refusal.TheVariants.{Full}
use Rattle.savers.specs.Rows.{Row, capacity, follow, newest, has_room, has, row_taken, answer_taken, row_back, row_forgot}
use Rattle.savers.specs.Replays.{step, after, since, reached, replayed}

after_push : (rule : Rule) (w : Words) (ms : List Message) (m : Message) → after rule w (ms ++ m ∷ []) ≡ (rule (after rule w ms) m).words
after_push rule w [] m = refl
after_push rule w (x ∷ ms) m = after_push rule (rule w x).words ms m

abbrev no_message : Message
no_message = record { time = 0; source = 0; number = 0; destination = 0; kind = 0; payload = 0 }

-- one message more
pub after_more : (rule : Rule) (w v v' : Words) (ms : List Message) (i : ℕ) → i < length ms
    → v ≡ after rule w (take i ms) → v' ≡ (rule v (slice_index_or ms i no_message)).words → v' ≡ after rule w (take (i + 1) ms)
after_more rule w v v' ms i lt e e' =
    e' ∙ ap (λ u. (rule u (slice_index_or ms i no_message)).words) e
    ∙ sym (ap (after rule w) (take_more ms i no_message lt) ∙ after_push rule w (take i ms) (slice_index_or ms i no_message))

-- the messages since a checkpoint are the end of those before a place
since_is : (ms : List Message) (i : ℕ) → since ms i ≡ drop (i / step * step) (take i ms)
since_is ms i =
    let d : ℕ = i / step * step in
    let place : d + i % step ≡ i = omega arith in
    sym (drop-take d (i % step) ms) ∙ ap (λ k. drop d (take k ms)) place

since_same : (xs ys : List Message) (i : ℕ) → take i xs ≡ take i ys → since xs i ≡ since ys i
since_same xs ys i e = since_is xs i ∙ ap (drop (i / step * step)) e ∙ sym (since_is ys i)

since_end : (ms : List Message) → since ms (length ms) ≡ drop (length ms / step * step) ms
since_end ms = since_is ms (length ms) ∙ ap (drop (length ms / step * step)) (take_all (length ms) ms (omega arith))

since_push : (ms : List Message) (m : Message) → ((length ms + 1) % step ≢ 0) → since (ms ++ m ∷ []) (length ms + 1) ≡ since ms (length ms) ++ m ∷ []
since_push ms m un =
    let n : ℕ = length ms in
    let same : (n + 1) / step ≡ n / step = omega arith in
    since_is (ms ++ m ∷ []) (n + 1)
    ∙ ap (drop ((n + 1) / step * step)) (take_all (n + 1) (ms ++ m ∷ []) (omega (arith, length-append ms (m ∷ []))))
    ∙ ap (λ q. drop (q * step) (ms ++ m ∷ [])) same
    ∙ drop-append-le (n / step * step) ms (m ∷ []) (omega arith)
    ∙ ap (λ xs. xs ++ m ∷ []) (sym (since_end ms))

-- the messages since a checkpoint, where those before the q-th checkpoint are gone
since_drop : (ms : List Message) (q i : ℕ) → since (drop (q * step) ms) i ≡ since ms (q * step + i)
since_drop ms q i =
    let rest : i % step ≡ (q * step + i) % step = omega arith in
    let place : q * step + i / step * step ≡ (q * step + i) / step * step = omega arith in
    ap (take (i % step)) (drop-drop (i / step * step) (q * step) ms)
    ∙ ap (λ k. take (i % step) (drop k ms)) place
    ∙ ap (λ r. take r (drop ((q * step + i) / step * step) ms)) rest

-- one more has room
pushed : {X : Type 0} (n : ℕ) (xs : List X) (x : X) → length xs < n → take n (xs ++ x ∷ []) ≡ xs ++ x ∷ []
pushed n xs x lt = take_all n (xs ++ x ∷ []) (omega (arith, length-append xs (x ∷ [])))

pub one_more : {X : Type 0} (n : ℕ) (xs xs' : List X) (x : X) → length xs < n → xs' ≡ take n (xs ++ x ∷ []) → length xs' ≡ length xs + 1
one_more n xs xs' x lt e = ap length (e ∙ pushed n xs x lt) ∙ length-append xs (x ∷ [])

-- a table is the list of its entries
table : (f : ℕ → Words) (a n : ℕ) (xs : List Words) → n ≡ length xs → ((k : ℕ) → k < n → f (a + k) ≡ get_or xs k zeros) → map f (range_with_len a n) ≡ xs
table f a n xs e same =
    let long = length-map-range_with_len f a n in
    ext_get_or zeros (map f (range_with_len a n)) xs (long ∙ e)
    (λ k lt. let lt' : k < n = omega (arith, long) in get_or-map-range_with_len f a n k (a + k) zeros lt' refl ∙ same k lt')

-- the words at two places, from the same checkpoint and messages
same_place : (rule : Rule) (xs ys : List Words) (ms ns : List Message) (i j : ℕ)
    → slice_index_or xs (i / step) zeros ≡ slice_index_or ys (j / step) zeros → since ms i ≡ since ns j → reached rule xs ms i ≡ reached rule ys ns j
same_place rule xs ys ms ns i j e e' = ap (λ w. after rule w (since ms i)) e ∙ ap (after rule (slice_index_or ys (j / step) zeros)) e'

module _ (rule : Rule) (checkpoints : List Words) (messages : List Message) (first : ℕ) where
  abbrev row : Row
  row = replayed rule checkpoints messages first

  pub replayed_long : length row ≡ length messages - first + 1
  replayed_long = length-map-range_with_len (reached rule checkpoints messages) first (length messages - first + 1)

  replayed_at : (k : ℕ) → k < length row → get_or row k zeros ≡ reached rule checkpoints messages (first + k)
  replayed_at k lt =
      get_or-map-range_with_len (reached rule checkpoints messages) first (length messages - first + 1) k (first + k) zeros (omega (arith, replayed_long)) refl

  -- the last of them is what the words at the last place are
  pub replayed_newest : first ≤ length messages → reached rule checkpoints messages (length messages) ≡ newest row
  replayed_newest le =
      sym (get_or-map-range_with_len (reached rule checkpoints messages) first (length messages - first + 1) (follow row) (length messages) zeros
      (omega (arith, replayed_long)) (omega (arith, replayed_long)))

  pub replayed_answers : (m : Message) (s : Sends) → first ≤ length messages → follow row < capacity
      → s ≡ (rule (reached rule checkpoints messages (length messages)) m).sends → Ok s ≡ answer_taken rule row m
  replayed_answers m s le few e =
      ap Ok (e ∙ ap (λ u. (rule u m).sends) (replayed_newest le)) ∙ sym (cond-true (has_room row) _ (Err Full) (lt-ltb (follow row) capacity few))

  -- the last words, once all messages since the last checkpoint were taken again
  pub newest_reached : (count i : ℕ) (ms : List Message) → first ≤ length messages → length checkpoints ≡ length messages / step + 1
      → count ≡ length checkpoints → ms ≡ messages
      → length (take (length ms - (count - 1) * step) (drop ((count - 1) * step) ms)) ≤ i
      → after rule (slice_index_or checkpoints (count - 1) zeros) (take i (take (length ms - (count - 1) * step) (drop ((count - 1) * step) ms))) ≡ newest row
  newest_reached count i ms le marked counted e all =
      let d : ℕ = (count - 1) * step in
      let last : count - 1 ≡ length messages / step = omega arith in
      ap (after rule (slice_index_or checkpoints (count - 1) zeros))
      (take_all i _ all ∙ take_all (length ms - d) (drop d ms) (omega (arith, length-drop d ms)) ∙ ap (drop d) e)
      ∙ ap (λ q. after rule (slice_index_or checkpoints q zeros) (drop (q * step) messages)) last
      ∙ ap (after rule (slice_index_or checkpoints (length messages / step) zeros)) (sym (since_end messages))
      ∙ replayed_newest le

  -- one place more, where the checkpoints of the places before it are as they were
  grown : (checkpoints' : List Words) (messages' : List Message) (m : Message) → first ≤ length messages → follow row < capacity
      → messages' ≡ messages ++ m ∷ []
      → ((i : ℕ) → i ≤ length messages → slice_index_or checkpoints' (i / step) zeros ≡ slice_index_or checkpoints (i / step) zeros)
      → reached rule checkpoints' messages' (length messages + 1) ≡ (rule (newest row) m).words
      → replayed rule checkpoints' messages' first ≡ row_taken rule row m
  grown checkpoints' messages' m le few push kept new =
      let n : ℕ = length messages - first + 1 in
      let f' = reached rule checkpoints' messages' in
      let more : length messages' - first + 1 ≡ n + 1 = omega (arith, ap length push, length-append messages (m ∷ [])) in
      ap (λ k. map f' (range_with_len first k)) more
      ∙ map-range_with_len_more f' first n (length messages + 1) (omega arith)
      ∙ ap (λ xs. xs ++ f' (length messages + 1) ∷ []) (table f' first n row (sym replayed_long) (λ k lt.
      let i : ℕ = first + k in
      same_place rule checkpoints' checkpoints messages' messages i i (kept i (omega arith))
      (since_same messages' messages i (ap (take i) push ∙ take-append-le i messages (m ∷ []) (omega arith)))
      ∙ sym (replayed_at k (omega (arith, replayed_long)))))
      ∙ ap (λ w. row ++ w ∷ []) new
      ∙ sym (cond-true (has_room row) _ row (lt-ltb (follow row) capacity few))

  pub taken_between : (m : Message) (messages' : List Message) → first < step → first ≤ length messages
      → follow row < capacity → length messages' % step ≢ 0 → messages' ≡ take (capacity + step - 1) (messages ++ m ∷ [])
      → replayed rule checkpoints messages' first ≡ row_taken rule row m
  taken_between m messages' low le few off push =
      let n : ℕ = length messages in
      let more : messages' ≡ messages ++ m ∷ [] = push ∙ pushed (capacity + step - 1) messages m (omega (arith, replayed_long)) in
      let un : (n + 1) % step ≢ 0 = omega (arith, ap length more, length-append messages (m ∷ [])) in
      let same : (n + 1) / step ≡ n / step = omega arith in
      grown checkpoints messages' m le few more (λ i lt. refl)
      (ap (after rule (slice_index_or checkpoints ((n + 1) / step) zeros)) (ap (λ ms. since ms (n + 1)) more ∙ since_push messages m un)
      ∙ after_push rule (slice_index_or checkpoints ((n + 1) / step) zeros) (since messages n) m
      ∙ ap (λ q. (rule (after rule (slice_index_or checkpoints q zeros) (since messages n)) m).words) same
      ∙ ap (λ w. (rule w m).words) (replayed_newest le))

  pub taken_at_checkpoint : (m : Message) (w : Words) (checkpoints' : List Words) (messages' : List Message) → first < step → first ≤ length messages
      → length checkpoints ≡ length messages / step + 1 → follow row < capacity → length messages' % step ≡ 0
      → messages' ≡ take (capacity + step - 1) (messages ++ m ∷ []) → checkpoints' ≡ take (capacity / step + 1) (checkpoints ++ w ∷ [])
      → w ≡ (rule (newest row) m).words
      → replayed rule checkpoints' messages' first ≡ row_taken rule row m
  taken_at_checkpoint m w checkpoints' messages' low le marked few whole push push' e =
      let n : ℕ = length messages in
      let q : ℕ = (n + 1) / step in
      let more : messages' ≡ messages ++ m ∷ [] = push ∙ pushed (capacity + step - 1) messages m (omega (arith, replayed_long)) in
      let on : (n + 1) % step ≡ 0 = omega (arith, ap length more, length-append messages (m ∷ [])) in
      let more' : checkpoints' ≡ checkpoints ++ w ∷ [] = push' ∙ pushed (capacity / step + 1) checkpoints w (omega (arith, replayed_long)) in
      let none : q - length checkpoints ≡ 0 = omega arith in
      grown checkpoints' messages' m le few more
      (λ i lt. ap (λ xs. get_or xs (i / step) zeros) more' ∙ get_or-append checkpoints (w ∷ []) zeros (i / step) (omega arith))
      (ap (λ r. after rule (slice_index_or checkpoints' q zeros) (take r (drop (q * step) messages'))) on
      ∙ ap (λ xs. get_or xs q zeros) more'
      ∙ get_or-append_right checkpoints (w ∷ []) (length checkpoints) q zeros refl (omega arith)
      ∙ ap (λ k. get_or (w ∷ []) k zeros) none
      ∙ e)

  pub replayed_back : (n : ℕ) (checkpoints' : List Words) (messages' : List Message) → first ≤ length messages → n ≤ follow row
      → checkpoints' ≡ take ((first + n) / step + 1) checkpoints → messages' ≡ take (first + n) messages
      → replayed rule checkpoints' messages' first ≡ row_back row n
  replayed_back n checkpoints' messages' le lt cut cut' =
      let p : ℕ = first + n in
      let fewer : length messages' - first + 1 ≡ length (take (n + 1) row) =
      omega (arith, ap length cut', length-take p messages, length-take (n + 1) row, replayed_long) in
      table (reached rule checkpoints' messages') first (length messages' - first + 1) (take (n + 1) row) fewer (λ k below.
      let i : ℕ = first + k in
      let early : k < n + 1 = omega (arith, ap length cut', length-take p messages, replayed_long) in
      same_place rule checkpoints' checkpoints messages' messages i i
      (ap (λ xs. get_or xs (i / step) zeros) cut ∙ get_or-take (p / step + 1) checkpoints (i / step) zeros (omega arith))
      (since_same messages' messages i (ap (take i) cut' ∙ take-take i p messages (omega arith)))
      ∙ sym (get_or-take (n + 1) row k zeros early ∙ replayed_at k (omega (arith, replayed_long))))
      ∙ sym (cond-true (has row n) _ row (le-leb n (follow row) lt))

  -- what was before the last checkpoint at or before the new start is gone
  pub replayed_forgot : (n : ℕ) (checkpoints' : List Words) (messages' : List Message) → first ≤ length messages → n ≤ follow row
      → checkpoints' ≡ drop ((first + n) / step) checkpoints → messages' ≡ drop ((first + n) / step * step) messages
      → replayed rule checkpoints' messages' ((first + n) % step) ≡ row_forgot row n
  replayed_forgot n checkpoints' messages' le lt shed shed' =
      let p : ℕ = first + n in
      let q : ℕ = p / step in
      let left : length messages' ≡ length messages - q * step = ap length shed' ∙ length-drop (q * step) messages in
      let fewer : length messages' - p % step + 1 ≡ length (drop n row) = omega (arith, left, length-drop n row, replayed_long) in
      table (reached rule checkpoints' messages') (p % step) (length messages' - p % step + 1) (drop n row) fewer (λ k below.
      let i : ℕ = p % step + k in
      let there : q + i / step ≡ (first + (n + k)) / step = omega arith in
      let place : q * step + i ≡ first + (n + k) = omega arith in
      same_place rule checkpoints' checkpoints messages' messages i (first + (n + k))
      (ap (λ xs. get_or xs (i / step) zeros) shed ∙ get_or-drop q checkpoints (i / step) zeros ∙ ap (λ j. get_or checkpoints j zeros) there)
      (ap (λ ms. since ms i) shed' ∙ since_drop messages q i ∙ ap (since messages) place)
      ∙ sym (get_or-drop n row k zeros ∙ replayed_at (n + k) (omega (arith, left, replayed_long))))
      ∙ sym (cond-true (has row n) _ row (le-leb n (follow row) lt))

-- how long the row is, and a list whose front is gone
pub ruleset lengths = (replayed_long, length-drop)

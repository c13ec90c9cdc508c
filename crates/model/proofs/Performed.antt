-- What a call does: it is refused, and then nothing moves, or it makes its change because it passed its tests.
use Rattle.std.proofs.Common.{◌≡◌, ℕ, ◌+◌, ◌-◌, ◌<◌, ◌≤◌, false, ◌&&◌, ltb, leb, List, [], ◌∷◌, ◌++◌, map, length, get_or, take, drop, refl, inl, inr}
use Rattle.std.proofs.lemmas.Bool.{cases_Bool, leb-false, ltb-false}
use Rattle.rows.specs.Rows.{without}
use Rattle.bus.specs.declared.Message.{Message}
use Rattle.addressing.specs.Settings.{Setting, boards_of}
use Rattle.model.specs.Commit.{commit}
use Rattle.model.specs.Deliver.{arrive, deliver, no_message, room}
use Rattle.model.specs.Offer.{line_time, offer, stimulus}
use Rattle.model.specs.Outlook.{outlook}
use Rattle.model.specs.Perform.{perform}
use Rattle.model.specs.Run.{run, run_first, run_open}
use Rattle.model.specs.State.{Answer, State, at_board, delivered, inside, looked, more_undone, offered, one_offer, refused, row_at, sends_of, with_board, with_counters, with_transit}
use Rattle.model.specs.declared.call.Call.{Call}
use Rattle.model.specs.declared.call.Call.TheVariants.{Commit, Deliver, Offer, Outlook, Run}
use Rattle.model.specs.declared.item.Item.{Item}
use Rattle.model.specs.declared.item.Item.TheVariants.{Minus, Plus}
use Rattle.model.specs.declared.refusal.Refusal.{Refusal}
use Rattle.model.specs.declared.refusal.Refusal.TheVariants.{BeforeLastLine, BoardFull, NoBoard, NoItem, NothingOpen, OffersSpent, PastEnd, RunsSpent, TransitFull}

abbrev pub offered_on : State → Message → State
offered_on s x = with_counters (one_offer s.counters) (with_transit (s.transit ++ Plus x ∷ []) s)

abbrev pub delivered_on : State → ℕ → Item → State
delivered_on s i item =
    let k = (inside item).destination in
    let q = at_board s k in
    let a = arrive item q in
    with_counters (more_undone (length q.standing - a.stay) s.counters)
    (with_transit (without i s.transit ++ map Minus (sends_of (drop a.stay q.standing)))
    (with_board k a.queues (take (a.stay + 1) (row_at s k)) s))

module _ (c : Setting) (s : State) (Q : Call → State × Answer → Type 0) where
  pub record Cases : Type 0 where
    pub refuses : (call : Call) (e : Refusal) → Q call (s, refused e)
    pub offers : (t d k p : ℕ) → d < boards_of c → line_time s.last ≤ t → s.counters.offers < 65536 → length s.transit < 128 →
        Q (Offer t d k p) (offered_on s (stimulus s.counters.offers t d k p), offered s.counters.offers)
    pub delivers : (i : ℕ) → i < length s.transit →
        let item = get_or s.transit i (Plus no_message) in
        let q = at_board s (inside item).destination in
        let a = arrive item q in
        (a.needs_place && leb 32 (room q)) ≡ false → length s.transit - 1 + length (sends_of (drop a.stay q.standing)) ≤ 128 →
        Q (Deliver i) (delivered_on s i item, delivered (length q.standing - a.stay))
    pub runs : (k : ℕ) → k < boards_of c → (m : Message) (rest : List Message) → (at_board s k).open_ones ≡ m ∷ rest →
        s.counters.runs < 1000000000 → length s.transit ≤ 126 → Q (Run k) (run_open c s k m rest)
    pub looks : Q Outlook (s, looked (outlook s))
    pub commits : (most : ℕ) → Q (Commit most) (commit s most)

  module _ (w : Cases) where
    offer_cases : (t d k p : ℕ) → Q (Offer t d k p) (offer c s t d k p)
    offer_cases t d k p = elim (cases_Bool (leb (boards_of c) d)) [
      | inl h1 ↦ rw h1 (w.refuses (Offer t d k p) NoBoard)
      | inr h1 ↦ rw h1 (elim (cases_Bool (ltb c.end t)) [
        | inl h2 ↦ rw h2 (w.refuses (Offer t d k p) PastEnd)
        | inr h2 ↦ rw h2 (elim (cases_Bool (ltb t (line_time s.last))) [
          | inl h3 ↦ rw h3 (w.refuses (Offer t d k p) BeforeLastLine)
          | inr h3 ↦ rw h3 (elim (cases_Bool (leb 65536 s.counters.offers)) [
            | inl h4 ↦ rw h4 (w.refuses (Offer t d k p) OffersSpent)
            | inr h4 ↦ rw h4 (elim (cases_Bool (leb 128 (length s.transit))) [
              | inl h5 ↦ rw h5 (w.refuses (Offer t d k p) TransitFull)
              | inr h5 ↦ rw h5 (w.offers t d k p (leb-false (boards_of c) d h1) (ltb-false t (line_time s.last) h3)
                  (leb-false 65536 s.counters.offers h4) (leb-false 128 (length s.transit) h5))
            ])
          ])
        ])
      ])
    ]

    deliver_cases : (i : ℕ) → Q (Deliver i) (deliver s i)
    deliver_cases i =
        let item = get_or s.transit i (Plus no_message) in
        let q = at_board s (inside item).destination in
        let a = arrive item q in
        let left = length s.transit - 1 + length (sends_of (drop a.stay q.standing)) in
        elim (cases_Bool (leb (length s.transit) i)) [
          | inl h1 ↦ rw h1 (w.refuses (Deliver i) NoItem)
          | inr h1 ↦ rw h1 (elim (cases_Bool (a.needs_place && leb 32 (room q))) [
            | inl h2 ↦ rw h2 (w.refuses (Deliver i) BoardFull)
            | inr h2 ↦ rw h2 (elim (cases_Bool (ltb 128 left)) [
              | inl h3 ↦ rw h3 (w.refuses (Deliver i) TransitFull)
              | inr h3 ↦ rw h3 (w.delivers i (leb-false (length s.transit) i h1) h2 (ltb-false 128 left h3))
            ])
          ])
        ]

    run_some : (k : ℕ) → k < boards_of c → (o : List Message) → (at_board s k).open_ones ≡ o → Q (Run k) (run_first c s k o)
    run_some k kb [] e = w.refuses (Run k) NothingOpen
    run_some k kb (m ∷ rest) e = elim (cases_Bool (leb 1000000000 s.counters.runs)) [
      | inl h1 ↦ rw h1 (w.refuses (Run k) RunsSpent)
      | inr h1 ↦ rw h1 (elim (cases_Bool (ltb 126 (length s.transit))) [
        | inl h2 ↦ rw h2 (w.refuses (Run k) TransitFull)
        | inr h2 ↦ rw h2 (w.runs k kb m rest e (leb-false 1000000000 s.counters.runs h1) (ltb-false 126 (length s.transit) h2))
      ])
    ]

    run_cases : (k : ℕ) → Q (Run k) (run c s k)
    run_cases k = elim (cases_Bool (leb (boards_of c) k)) [
      | inl h1 ↦ rw h1 (w.refuses (Run k) NoBoard)
      | inr h1 ↦ rw h1 (run_some k (leb-false (boards_of c) k h1) (at_board s k).open_ones refl)
    ]

    pub performed : (call : Call) → Q call (perform c s call)
    performed (Offer t d k p) = offer_cases t d k p
    performed (Deliver i) = deliver_cases i
    performed (Run k) = run_cases k
    performed Outlook = w.looks
    performed (Commit most) = w.commits most

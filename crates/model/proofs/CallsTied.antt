-- Each call keeps bench and machine tied, and so do calls one after the other.
use Rattle.std.proofs.Common.{◌≡◌, ℕ, ◌+◌, ◌-◌, ◌<◌, ◌≤◌, List, [], ◌∷◌, ◌++◌, length, get_or, refl, arith}
use Rattle.std.proofs.lemmas.List.{append_assoc, append-nil}
use Rattle.rows.proofs.Sorted.{count_append}
use Rattle.bus.specs.Order.{message_before}
use Rattle.bus.specs.declared.Message.{Message}
use Rattle.bus.specs.declared.Words.{Words}
use Rattle.sequential.specs.Sequential.{fresh}
use Rattle.addressing.specs.Settings.{Setting, boards_of}
use Rattle.model.specs.Commit.{commit}
use Rattle.model.specs.Deliver.{arrive, no_message}
use Rattle.model.specs.Offer.{line_time, stimulus}
use Rattle.model.specs.Outlook.{outlook}
use Rattle.model.specs.Perform.{admitted, after, answers, lines, lines_of, perform, runs_of, stimuli, total, undone_of}
use Rattle.model.specs.Run.{run_open}
use Rattle.model.specs.State.{Answer, State, at_board, delivered, inside, looked, offered, refused}
use Rattle.model.specs.declared.call.Call.{Call}
use Rattle.model.specs.declared.call.Call.TheVariants.{Commit, Deliver, Offer, Outlook, Run}
use Rattle.model.specs.declared.item.Item.TheVariants.{Plus}
use Rattle.model.specs.declared.refusal.Refusal.{Refusal}
use Rattle.model.proofs.Followed.{Besides, Takes, follow, follow_besides}
use Rattle.model.proofs.Tied.{Tied}
use Rattle.model.proofs.Performed.{delivered_on, offered_on, performed}
use Rattle.model.proofs.RunTied.{run_tied}
use Rattle.model.proofs.DeliverTied.{deliver_tied}
use Rattle.model.proofs.OfferTied.{offer_after, offer_tied}
use Rattle.model.proofs.CommitTied.{commit_tied}

module _ (c : Setting) (starts : List Words) where
  -- the bench s, the stimuli that it admitted, and the lines that it wrote
  abbrev pub Held : List Message → List Message → State → Type 0
  Held xs ls s = Takes c (fresh c starts xs) ls × Tied c (follow c (fresh c starts xs) ls) ls s

  record Kept (xs ls : List Message) (s : State) (call : Call) (r : State × Answer) : Type 0 where
    held : Held (xs ++ admitted call r.1) (ls ++ lines_of r.1) r.0
    runs_more : r.0.counters.runs ≡ s.counters.runs + runs_of r.1
    undone_more : r.0.counters.undone ≡ s.counters.undone + undone_of r.1

  module _ (xs ls : List Message) (s : State) (h : Held xs ls s) where
    unchanged : (call : Call) (a : Answer) → admitted call a ≡ [] → lines_of a ≡ [] → runs_of a ≡ 0 → undone_of a ≡ 0 → Kept xs ls s call (s, a)
    unchanged call a e f g k = record { held = rw (e, f, append-nil xs, append-nil ls) h; runs_more = omega arith; undone_more = omega arith }

    none_admitted : (call : Call) (e : Refusal) → admitted call (refused e) ≡ []
    none_admitted (Offer t d k p) e = refl
    none_admitted (Deliver i) e = refl
    none_admitted (Run k) e = refl
    none_admitted Outlook e = refl
    none_admitted (Commit most) e = refl

    one_more : (x : Message) → Besides x (fresh c starts xs) (fresh c starts (xs ++ (x ∷ [])))
    one_more x = record { words_same = refl; sent_same = refl; log_same = refl; pending_more = λ y. count_append message_before y xs (x ∷ []) }

    offer_kept : (t d k p : ℕ) → d < boards_of c → line_time s.last ≤ t →
        Kept xs ls s (Offer t d k p) (offered_on s (stimulus s.counters.offers t d k p), offered s.counters.offers)
    offer_kept t d k p to due =
        let x = stimulus s.counters.offers t d k p in
        let m = follow c (fresh c starts xs) ls in
        let m' = follow c (fresh c starts (xs ++ (x ∷ []))) ls in
        let f = follow_besides c x (fresh c starts xs) (fresh c starts (xs ++ (x ∷ []))) ls (one_more x) (offer_after c m m' ls s h.1 t d k p to due) h.0 in
        record { held = rw (append-nil ls) (f.0, offer_tied c m m' ls s h.1 t d k p to due f.1); runs_more = omega arith; undone_more = omega arith }

    deliver_kept : (i : ℕ) → i < length s.transit →
        let item = get_or s.transit i (Plus no_message) in
        let q = at_board s (inside item).destination in
        Kept xs ls s (Deliver i) (delivered_on s i item, delivered (length q.standing - (arrive item q).stay))
    deliver_kept i ib = record {
      held = rw (append-nil xs, append-nil ls) (h.0, deliver_tied c (follow c (fresh c starts xs) ls) ls s h.1 i ib);
      runs_more = omega arith;
      undone_more = refl;
    }

    run_kept : (k : ℕ) → k < boards_of c → (m : Message) (rest : List Message) → (at_board s k).open_ones ≡ m ∷ rest → Kept xs ls s (Run k) (run_open c s k m rest)
    run_kept k kb m rest e = record {
      held = rw (append-nil xs, append-nil ls) (h.0, run_tied c (follow c (fresh c starts xs) ls) ls s h.1 k kb m rest e);
      runs_more = refl;
      undone_more = omega arith;
    }

    commit_kept : (most : ℕ) → Kept xs ls s (Commit most) (commit s most)
    commit_kept most = record { held = rw (append-nil xs) (commit_tied c (fresh c starts xs) most ls s h); runs_more = omega arith; undone_more = omega arith }

    perform_kept : (call : Call) → Kept xs ls s call (perform c s call)
    perform_kept = performed c s (Kept xs ls s) (record {
      refuses = λ call e. unchanged call (refused e) (none_admitted call e) refl refl refl;
      offers = λ t d k p to due left places. offer_kept t d k p to due;
      delivers = λ i ib place places. deliver_kept i ib;
      runs = λ k kb m rest e left places. run_kept k kb m rest e;
      looks = unchanged Outlook (looked (outlook s)) refl refl refl refl;
      commits = commit_kept;
    })

  -- calls one after the other
  pub record AllKept (xs ls : List Message) (s : State) (calls : List Call) : Type 0 where
    pub held : Held (xs ++ stimuli c s calls) (ls ++ lines (answers c s calls)) (after c s calls)
    pub runs_more : (after c s calls).counters.runs ≡ s.counters.runs + total runs_of (answers c s calls)
    pub undone_more : (after c s calls).counters.undone ≡ s.counters.undone + total undone_of (answers c s calls)

  pub calls_kept : (calls : List Call) (xs ls : List Message) (s : State) → Held xs ls s → AllKept xs ls s calls
  calls_kept [] xs ls s h = record { held = rw (append-nil xs, append-nil ls) h; runs_more = omega arith; undone_more = omega arith }
  calls_kept (x ∷ calls) xs ls s h =
      let k = perform_kept xs ls s h x in
      let r = calls_kept calls (xs ++ admitted x (perform c s x).1) (ls ++ lines_of (perform c s x).1) (perform c s x).0 k.held in
      record {
        held = rw (← (append_assoc xs (admitted x (perform c s x).1) (stimuli c (perform c s x).0 calls)), ← (append_assoc ls (lines_of (perform c s x).1) (lines (answers c (perform c s x).0 calls)))) r.held;
        runs_more = omega (arith, k.runs_more, r.runs_more);
        undone_more = omega (arith, k.undone_more, r.undone_more);
      }

-- An admitted offer keeps the bench tied to the machine that has the stimulus too.
use Rattle.std.proofs.Common.{◌≡◌, ℕ, ◌+◌, ◌<◌, ◌≤◌, true, List, [], ◌∷◌, map, length, refl, ap, ◌∙◌, inl, inr, arith}
use Rattle.std.proofs.ByRecursion.{All-append, All-weaker}
use Rattle.std.proofs.lemmas.List.{map-append}
use Rattle.bus.specs.Order.{message_before}
use Rattle.bus.specs.declared.Message.{Message}
use Rattle.bus.specs.declared.Words.{Words}
use Rattle.savers.specs.Rows.{Row}
use Rattle.sequential.specs.Sequential.{Machine}
use Rattle.addressing.specs.Settings.{Setting, boards_of}
use Rattle.model.specs.Offer.{line_time, stimulus}
use Rattle.model.specs.State.{Event, Queues, State, inside}
use Rattle.model.specs.declared.item.Item.TheVariants.{Plus}
use Rattle.model.proofs.Orders.{before_stimulus}
use Rattle.model.proofs.Followed.{Besides}
use Rattle.model.proofs.Tied.{After, Board, Known, Sent, Stands, Tied, Waits, minus_in, plus_in}
use Rattle.model.proofs.Transits.{count_both}
use Rattle.model.proofs.Performed.{offered_on}

known_more : (c : Setting) (offers : ℕ) (m : Message) → Known c offers m → Known c (offers + 1) m
known_more c offers m h = (h.0, elim h.1 [ inl l ↦ inl l | inr l ↦ inr (l.0, omega (arith, l.1)) ])

module _ (c : Setting) (offers : ℕ) (ls : List Message) (k : ℕ) where
  stands_more : (e : Event) → Stands c offers ls k e → Stands c (offers + 1) ls k e
  stands_more e h = record {
    known = known_more c offers e.message h.known;
    home = h.home;
    kept = h.kept;
    sent_later = All-weaker (Sent c offers ls e.message) (Sent c (offers + 1) ls e.message) (λ x g. (g.0, known_more c offers x g.1)) e.sends h.sent_later;
  }

  waits_more : (m : Message) → Waits c offers ls k m → Waits c (offers + 1) ls k m
  waits_more m h = record { known = known_more c offers m h.known; home = h.home; later = h.later }

  board_more : (w : Words) (n : ℕ) (q : Queues) (row : Row) → Board c offers ls k w n q row → Board c (offers + 1) ls k w n q row
  board_more w n q row b = record {
    sent_is = b.sent_is;
    chain = b.chain;
    ordered = b.ordered;
    stands = All-weaker (Stands c offers ls k) (Stands c (offers + 1) ls k) stands_more q.standing b.stands;
    opens = All-weaker (Waits c offers ls k) (Waits c (offers + 1) ls k) waits_more q.open_ones b.opens;
    earlies = All-weaker (Waits c offers ls k) (Waits c (offers + 1) ls k) waits_more q.early b.earlies;
  }

module _ (c : Setting) (m m' : Machine) (ls : List Message) (s : State) (t : Tied c m ls s)
    (time destination kind payload : ℕ) (to : destination < boards_of c) (due : line_time s.last ≤ time) where
  abbrev x : Message
  x = stimulus s.counters.offers time destination kind payload

  -- every line is before the stimulus
  pub offer_after : After ls x
  offer_after = All-weaker (λ l. Known c s.counters.offers l × (l.time ≤ line_time s.last)) (λ l. message_before l x ≡ true) (λ l h. before_stimulus l x (omega (arith, h.1)) h.0.1) ls t.past

  pub offer_tied : Besides x m m' → Tied c m' ls (offered_on s x)
  offer_tied b = record {
    eight = t.eight;
    tall = t.tall;
    words_wide = ap length b.words_same ∙ t.words_wide;
    sent_wide = ap length b.sent_same ∙ t.sent_wide;
    logged = b.log_same ∙ t.logged;
    board = λ k kb. rw (b.words_same, b.sent_same) (board_more c s.counters.offers ls k _ _ _ _ (t.board k kb));
    idle = t.idle;
    moving = rw (map-append inside s.transit (Plus x ∷ [])) (All-append (λ y. Known c (s.counters.offers + 1) y × After ls y) (map inside s.transit) (x ∷ [])
        (All-weaker (λ y. Known c s.counters.offers y × After ls y) (λ y. Known c (s.counters.offers + 1) y × After ls y) (λ y h. (known_more c s.counters.offers y h.0, h.1))
        (map inside s.transit) t.moving)
        (((to, inr (refl, omega arith)), offer_after), tt));
    balance = λ y. omega (arith, t.balance y, b.pending_more y, count_both y plus_in s.transit (Plus x ∷ []), count_both y minus_in s.transit (Plus x ∷ []));
    past = All-weaker (λ l. Known c s.counters.offers l × (l.time ≤ line_time s.last)) (λ l. Known c (s.counters.offers + 1) l × (l.time ≤ line_time s.last)) (λ l h. (known_more c s.counters.offers l h.0, h.1)) ls t.past;
    runs_are = t.runs_are;
    committed_are = t.committed_are;
  }

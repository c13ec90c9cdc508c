-- A run of a board keeps bench and machine tied.
use Rattle.std.proofs.Common.{◌≡◌, ℕ, ◌+◌, ◌<◌, true, false, List, [], ◌∷◌, ◌++◌, map, length, get_or, sym, refl, ap, ◌∙◌, subst, arith}
use Rattle.std.specs.List.{AllByRecursion}
use Rattle.std.proofs.ByRecursion.{All-append, All-weaker}
use Rattle.std.proofs.lemmas.List.{append_assoc, length-append, map-append}
use Rattle.rows.proofs.Sorted.{count_append}
use Rattle.bus.specs.Kinds.{outside}
use Rattle.bus.specs.Order.{message_before}
use Rattle.bus.specs.Reactions.{listed, zeros}
use Rattle.bus.specs.declared.Message.{Message}
use Rattle.bus.specs.declared.Words.{Words}
use Rattle.savers.specs.Rows.{Row, newest}
use Rattle.sequential.specs.Sequential.{Machine}
use Rattle.addressing.specs.Settings.{Setting, addressed, boards_of, rule_of}
use Rattle.model.specs.Run.{run_open, stood}
use Rattle.model.specs.State.{Event, Queues, State, at_board, inside, issued, row_at, sends_of, standing_of}
use Rattle.model.specs.declared.item.Item.TheVariants.{Plus}
use Rattle.model.proofs.Orders.{comes_after}
use Rattle.model.proofs.Counts.{how_many}
use Rattle.model.proofs.Sorted.{Sorted}
use Rattle.model.proofs.Tied.{After, Board, Known, Sent, Stands, Tied, Waits, change, credit, debit, minus_in, plus_in, sent_after}
use Rattle.model.proofs.Transits.{count_both, each_in, inside_made, none_in}
use Rattle.model.proofs.Arrivals.{messages, sends_append}
use Rattle.model.proofs.Chains.{addressed_sent, chain_push}

-- the board after the run
abbrev out : Setting → ℕ → Queues → Row → Message → List Message
out c k q row x = addressed c k x.time (issued q) (listed (rule_of c k (newest row) x).sends)

pub debit_same : (q : Queues) (x : Message) (sent rest : List Message) → q.open_ones ≡ x ∷ rest → debit (stood q x rest sent) ≡ debit q
debit_same q x sent rest e = ap (λ l. l ++ rest) (map-append (λ (e : Event). e.message) q.standing (record { message = x; sends = sent } ∷ []))
    ∙ append_assoc (messages q.standing) (x ∷ []) rest ∙ ap (λ l. messages q.standing ++ l) (sym e)

credit_more : (q : Queues) (x : Message) (sent rest : List Message) (y : Message) → how_many y (credit (stood q x rest sent)) ≡ how_many y (credit q) + how_many y sent
credit_more q x sent rest y = omega (
  arith,
  ap (λ l. how_many y (l ++ q.early)) (sends_append q.standing (record { message = x; sends = sent } ∷ [])),
  count_append message_before y (sends_of q.standing ++ (sent ++ [])) q.early,
  count_append message_before y (sends_of q.standing) (sent ++ []),
  count_append message_before y sent [],
  count_append message_before y (sends_of q.standing) q.early,
)

one_more : (q : Queues) (x : Message) (sent rest : List Message) → length (standing_of (stood q x rest sent)) ≡ length (standing_of q) + 1
one_more q x sent rest = ap length (map-append (λ (e : Event). e.message) q.standing (record { message = x; sends = sent } ∷ [])) ∙ length-append (messages q.standing) (x ∷ [])

module _ (c : Setting) (offers : ℕ) (ls : List Message) (k : ℕ) (w : Words) (n : ℕ) (q : Queues) (row : Row) (b : Board c offers ls k w n q row)
    (kb : k < outside) (x : Message) (rest : List Message) (e : q.open_ones ≡ x ∷ rest) where
  first_waits : Waits c offers ls k x
  first_waits = (rw e at b.opens).0

  out_sent : AllByRecursion (Sent c offers ls x) (out c k q row x)
  out_sent = addressed_sent c offers k x.time (issued q) (listed (rule_of c k (newest row) x).sends) kb

  out_moving : AllByRecursion (λ y. Known c offers y × After ls y) (out c k q row x)
  out_moving = All-weaker (Sent c offers ls x) (λ y. Known c offers y × After ls y) (λ y h. (h.1, sent_after ls x y h.0 first_waits.later)) (out c k q row x) out_sent

  ran_board : Board c offers ls k w n (stood q x rest (out c k q row x)) (row ++ ((rule_of c k (newest row) x).words ∷ []))
  ran_board = record {
    sent_is = b.sent_is;
    chain = rw b.sent_is (chain_push c k w n q.standing row x b.chain);
    ordered = subst Sorted (sym (debit_same q x (out c k q row x) rest e)) b.ordered;
    stands = All-append (Stands c offers ls k) q.standing (record { message = x; sends = out c k q row x } ∷ []) b.stands (
      record {
        known = first_waits.known;
        home = first_waits.home;
        kept = All-weaker (λ l. message_before l x ≡ true) (λ l. message_before x l ≡ false) (λ l h. comes_after l x h) ls first_waits.later;
        sent_later = out_sent;
      },
      tt,
    );
    opens = (rw e at b.opens).1;
    earlies = b.earlies;
  }

-- in the bench
pub run_tied : (c : Setting) (m : Machine) (ls : List Message) (s : State) → Tied c m ls s → (k : ℕ) → k < boards_of c →
    (x : Message) (rest : List Message) → (at_board s k).open_ones ≡ x ∷ rest → Tied c m ls (run_open c s k x rest).0
run_tied c m ls s t k kb x rest e =
    let q = at_board s k in
    let row = row_at s k in
    let w = get_or m.words k zeros in
    let n = get_or m.sent k 0 in
    let sent = out c k q row x in
    let below : k < outside = omega arith in
    change c m ls s t k kb (stood q x rest sent) (row ++ ((rule_of c k (newest row) x).words ∷ [])) (s.transit ++ map Plus sent) (s.counters.runs + 1) s.counters.undone
    (ran_board c s.counters.offers ls k w n q row (t.board k kb) below x rest e)
    (rw (map-append inside s.transit (map Plus sent), inside_made Plus (λ x. refl) sent)
    (All-append (λ y. Known c s.counters.offers y × After ls y) (map inside s.transit) sent t.moving
    (out_moving c s.counters.offers ls k w n q row (t.board k kb) below x rest e)))
    (λ y. omega (
      arith,
      credit_more q x sent rest y,
      ap (how_many y) (debit_same q x sent rest e),
      count_both y plus_in s.transit (map Plus sent),
      count_both y minus_in s.transit (map Plus sent),
      ap (how_many y) (each_in plus_in Plus (λ x. refl) sent),
      ap (how_many y) (none_in minus_in Plus (λ x. refl) sent),
    ))
    (omega (arith, one_more q x sent rest))

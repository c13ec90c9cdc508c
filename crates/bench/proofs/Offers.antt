-- An offer that is admitted is the rule's.
use Rattle.std.proofs.Common.{◌≡◌, ℕ, ◌<◌, ◌≤◌, Bool, cond, ltb, leb, List, [], ◌∷◌, ◌++◌, length, take, sym, ap, ◌∙◌, arith}
use Rattle.std.proofs.lemmas.List.{take_all, length-append}
use Rattle.std.proofs.lemmas.Bool.{lt-leb, le-ltb}
use Rattle.addressing.specs.Settings.{Setting, boards_of}
use Rattle.model.specs.declared.item.Item.{Item}
use Rattle.model.specs.declared.item.Item.TheVariants.{Plus}
use Rattle.model.specs.declared.refusal.Refusal.TheVariants.{NoBoard, PastEnd, BeforeLastLine, OffersSpent, TransitFull}
use Rattle.model.specs.State.{State, Answer, offered, refused, one_offer}
use Rattle.model.specs.Offer.{stimulus, line_time, offer}

module _ (c : Setting) (s : State) (t d k p : ℕ) where
  abbrev Admitted : List Item → State × Answer
  Admitted transit' = (record { rows = s.rows; boards = s.boards; transit = transit'; counters = one_offer s.counters; last = s.last }, offered s.counters.offers)

  pub offered_is : (transit' : List Item) → d < boards_of c → t ≤ c.end → line_time s.last ≤ t → s.counters.offers < 65536 → length s.transit < 128
      → transit' ≡ take 128 (s.transit ++ Plus (stimulus s.counters.offers t d k p) ∷ [])
      → Admitted transit' ≡ offer c s t d k p
  offered_is transit' board by_end after_Line few room e =
      let new = Plus (stimulus s.counters.offers t d k p) in
      let T = s.transit in
      let last = Admitted (T ++ new ∷ []) in
      let fits : take 128 (T ++ new ∷ []) ≡ T ++ new ∷ [] = take_all 128 (T ++ new ∷ []) (omega (arith, length-append T (new ∷ []), room)) in
      let f₅ : Bool → State × Answer = λ b. cond b (s, refused TransitFull) last in
      let f₄ : Bool → State × Answer = λ b. cond b (s, refused OffersSpent) (f₅ (leb 128 (length T))) in
      let f₃ : Bool → State × Answer = λ b. cond b (s, refused BeforeLastLine) (f₄ (leb 65536 s.counters.offers)) in
      let f₂ : Bool → State × Answer = λ b. cond b (s, refused PastEnd) (f₃ (ltb t (line_time s.last))) in
      let f₁ : Bool → State × Answer = λ b. cond b (s, refused NoBoard) (f₂ (ltb c.end t)) in
      ap Admitted (e ∙ fits)
      ∙ sym (ap f₁ (lt-leb (boards_of c) d board) ∙ ap f₂ (le-ltb c.end t by_end) ∙ ap f₃ (le-ltb t (line_time s.last) after_Line)
      ∙ ap f₄ (lt-leb 65536 s.counters.offers few) ∙ ap f₅ (lt-leb 128 (length T) room))

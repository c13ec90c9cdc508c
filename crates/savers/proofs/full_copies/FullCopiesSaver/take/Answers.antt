-- One more copy: the rule's words for the newest ones.
use Rattle.std.proofs.Common.{◌≡◌, ◌<◌, [], ◌∷◌, ◌++◌, sym, ap, ◌∙◌, arith, length-append}
use Rattle.std.proofs.lemmas.Bool.{cond-true, lt-ltb}
use Rattle.std.proofs.lemmas.List.{take_all}
use Rattle.rows.specs.Held.{held}
use Rattle.savers.specs.Rows.{capacity, follow, newest, has_room}
use Rattle.savers.proofs.full_copies.FullCopiesSaver.take.Goals as goal

pub returns-clause-left : goal.returns-clause-left
returns-clause-left g c =
    let row = held c.args.self.now.copies in
    let rule = g.B.Board.rule in
    let m = c.args.message.now in
    let new = c.words-words-2.result in
    let few : follow row < capacity = omega (arith, c.held.ensures) in
    let words : new ≡ (rule (newest row) m).words =
    c.words-words-2.ensures ∙ c.react-sends.ensures.leaves_the_rules_words ∙ ap (λ w. (rule w m).words) (c.load.ensures ∙ c.words-words.ensures) in
    c.push.ensures ∙ take_all 33 (row ++ new ∷ []) (omega (arith, few, length-append row (new ∷ []))) ∙ ap (λ w. row ++ w ∷ []) words
    ∙ sym (cond-true (has_room row) _ row (lt-ltb (follow row) capacity few))

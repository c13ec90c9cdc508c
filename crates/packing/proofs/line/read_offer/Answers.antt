-- A fault in the last field, and the four fields of an offer.
use Rattle.std.proofs.Common.{[], ◌∷◌, append_assoc, rules}
use Rattle.std.proofs.lemmas.Result.{err_from_is_err_and}
use Rattle.packing.proofs.Texts.{past_field}
use Rattle.packing.proofs.line.read_offer.Goals as goal

pub returns-in_err-payload : goal.returns-in_err-payload
returns-in_err-payload c =
    let p = err_from_is_err_and c.from_residual-in_err-payload.result c.from_residual-in_err-payload.ensures.1 in
    rw (p.1, p.2)
    (past_field 4294967295 _ (255 ∷ 255 ∷ 4294967295 ∷ []) c.args.fields.now _ _ c.in_ok-time.ensures
    (past_field 255 _ (255 ∷ 4294967295 ∷ []) _ _ _ c.in_ok-destination.ensures
    (past_field 255 _ (4294967295 ∷ []) _ _ _ c.in_ok-kind.ensures c.in_err-payload.ensures)))

pub returns : goal.returns
returns c = search (rules, append_assoc)

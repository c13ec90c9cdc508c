-- The parts of an offer, one behind the other.
use Rattle.std.proofs.Common.{◌≡◌, List, ℕ, [], ◌∷◌, ◌++◌, Ok, Err, Result, is_ok, cond, ◌∙◌, append_assoc, rules}
use Rattle.std.specs.Result.{OnOk}
use Rattle.schedule.specs.Layout.{four}
use Rattle.packing.proofs.bytes.push_call.Goals as goal

-- the last part, if there was memory for it
last_pushed : {T E : Type 0} (r : Result T E) (old front more all xs ys : List ℕ) → front ≡ old ++ xs → more ≡ ys → all ≡ cond (is_ok r) (front ++ more) front → OnOk r (all ≡ old ++ (xs ++ ys))
last_pushed (Ok x) old front more all xs ys first last e = e ∙ (λ i. first i ++ last i) ∙ append_assoc old xs ys
last_pushed (Err x) old front more all xs ys first last e = tt

pub returns-in_ok-extend_from_slice-in-Offer-2 : goal.returns-in_ok-extend_from_slice-in-Offer-2
returns-in_ok-extend_from_slice-in-Offer-2 c =
    let front : c.extend_from_slice-in-Offer.new.self.items ≡ c.args.bytes.now.items ++ (111 ∷ four c.in-Offer.time ++ c.in-Offer.destination ∷ c.in-Offer.kind ∷ []) = search (rules, append_assoc) in
    let last : c.to_le_bytes-in-Offer.result ≡ four c.in-Offer.payload = search rules in
    rw c.in-Offer.is (last_pushed _ _ _ _ _ _ _ front last c.extend_from_slice-in-Offer-2.ensures.items)

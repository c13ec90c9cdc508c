-- Rows and the events that led to them; what a reaction sends.
use Rattle.std.proofs.Common.{◌≡◌, ℕ, zero, suc, ◌+◌, ◌-◌, ◌<◌, ◌&&◌, ltb, leb, List, [], ◌∷◌, ◌++◌, length, get_or, take, refl, ap, inl, inr, add-zero, add_assoc, arith}
use Rattle.std.specs.List.{AllByRecursion}
use Rattle.std.proofs.lemmas.List.{length-append}
use Rattle.std.proofs.lemmas.Bool.{and_parts, cases_Bool, ltb-true}
use Rattle.bus.specs.Kinds.{outside}
use Rattle.bus.specs.Reactions.{listed, zeros}
use Rattle.bus.specs.declared.Message.{Message}
use Rattle.bus.specs.declared.Send.{Send}
use Rattle.bus.specs.declared.Words.{Words}
use Rattle.savers.specs.Rows.{Row, newest}
use Rattle.addressing.specs.Settings.{Setting, addressed, boards_of, rule_of}
use Rattle.model.specs.State.{Event, sends_of}
use Rattle.model.proofs.Tied.{Chain, Known}

-- what a reaction sends
pub addressed_sent : (c : Setting) (offers k t n : ℕ) (xs : List Send) → k < outside → AllByRecursion (λ x. (t < x.time) × Known c offers x) (addressed c k t n xs)
addressed_sent c offers k t n [] h = tt
addressed_sent c offers k t n (x ∷ xs) h = elim (cases_Bool (ltb x.address (boards_of c) && leb (t + 1 + x.lag) c.end)) [
  | inl e ↦ rw e ((omega arith, (ltb-true x.address (boards_of c) (and_parts _ _ e).0, inl h)), addressed_sent c offers k t (n + 1) xs h)
  | inr e ↦ rw e (addressed_sent c offers k t n xs h)
]

-- the first events
pub chain_take : (c : Setting) (k : ℕ) (w : Words) (n p : ℕ) (es : List Event) (row : Row) → Chain c k w n es row → Chain c k w n (take p es) (take (suc p) row)
chain_take c k w n zero [] row h = rw h
chain_take c k w n (suc p) [] row h = rw h
chain_take c k w n zero (e ∷ es) [] h = absurd h
chain_take c k w n (suc p) (e ∷ es) [] h = absurd h
chain_take c k w n zero (e ∷ es) (v ∷ row) h = rw h.0
chain_take c k w n (suc p) (e ∷ es) (v ∷ row) h = (h.0, h.1, chain_take c k (rule_of c k w e.message).words (n + length e.sends) p es row h.2)

-- one more event
newest_later : (c : Setting) (k : ℕ) (w v : Words) (n : ℕ) (es : List Event) (row : Row) → Chain c k w n es row → newest (v ∷ row) ≡ newest row
newest_later c k w v n [] row h = rw h
newest_later c k w v n (e ∷ es) [] h = absurd h
newest_later c k w v n (e ∷ es) (x ∷ row) h = ap (λ n. get_or (v ∷ x ∷ row) n zeros) (next (length row))
  where
    next : (n : ℕ) → suc (suc n) - 1 ≡ suc (suc n - 1)
    next n = omega arith

pub chain_push : (c : Setting) (k : ℕ) (w : Words) (n : ℕ) (es : List Event) (row : Row) (m : Message) → Chain c k w n es row →
    Chain c k w n
    (es ++ (record { message = m; sends = addressed c k m.time (n + length (sends_of es)) (listed (rule_of c k (newest row) m).sends) } ∷ []))
    (row ++ ((rule_of c k (newest row) m).words ∷ []))
chain_push c k w n [] row m h = rw (h, add-zero) (refl, refl, refl)
chain_push c k w n (e ∷ es) [] m h = absurd h
chain_push c k w n (e ∷ es) (v ∷ row) m h =
    (h.0, h.1, rw (newest_later c k (rule_of c k w e.message).words v (n + length e.sends) es row h.2, length-append e.sends (sends_of es), ← (add_assoc n (length e.sends) (length (sends_of es)))) (chain_push c k (rule_of c k w e.message).words (n + length e.sends) es row m h.2))

-- a row has the words before and after each event
pub chain_long : (c : Setting) (k : ℕ) (w : Words) (n : ℕ) (es : List Event) (row : Row) → Chain c k w n es row → length row ≡ length es + 1
chain_long c k w n [] row h = rw h
chain_long c k w n (e ∷ es) [] h = absurd h
chain_long c k w n (e ∷ es) (v ∷ row) h = omega (arith, chain_long c k (rule_of c k w e.message).words (n + length e.sends) es row h.2)

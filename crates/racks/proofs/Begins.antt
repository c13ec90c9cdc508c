-- A rack whose first savers have begun, one after the other. Assumes nothing.
use Rattle.std.proofs.Common.{◌≡◌, ℕ, ◌+◌, ◌<◌, List, [], ◌∷◌, map, length, get_or, take, drop, set, ap, ◌∙◌, arith}
use Rattle.std.proofs.lemmas.List.{drop_more, map_more, length-map, length-drop, length-take-le}
use Rattle.bus.specs.declared.Words.{Words}
use Rattle.bus.specs.Reactions.{zeros}
use Rattle.savers.specs.Rows.{Row}
use Rattle.racks.specs.Starts.{alone, with_words}
use Rattle.racks.proofs.Fronts.{front_push}

module _ (starts : List Words) (k : ℕ) (w : Words) (rest : List Words) (next : drop k starts ≡ w ∷ rest) where
  start : k < length starts
  start = omega (arith, length-drop k starts, ap length next)

  -- the start words after the next ones
  pub rest_more : rest ≡ drop (k + 1) starts
  rest_more = let more = drop_more starts k zeros start in cc

  pub begun_more : (rows now : List Row) → k < length rows → now ≡ with_words (take k starts) rows → set now k (w ∷ []) ≡ with_words (take (k + 1) starts) rows
  begun_more rows now row is =
      let front : length (map alone (take k starts)) ≡ k = length-map (take k starts) alone ∙ length-take-le k starts (omega (arith, start)) in
      let this : get_or starts k zeros ≡ w = let more = drop_more starts k zeros start in cc in
      let longer = map_more alone starts k zeros start in
      let push = front_push (map alone (take k starts)) rows k (alone w) front row in
      let set_is : set now k (w ∷ []) ≡ set (with_words (take k starts) rows) k (w ∷ []) = ap (λ (rs : List Row). set rs k (w ∷ [])) is in
      cc

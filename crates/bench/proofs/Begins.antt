-- A rack whose first savers begin.
use Rattle.std.proofs.Common.{◌≡◌, min, List, [], map, length, drop, ◌∙◌, arith}
use Rattle.std.proofs.lemmas.List.{length-append, length-map, length-take-le, length-drop, get_or_append_left, get_or-map}
use Rattle.bus.specs.declared.Words.{Words}
use Rattle.bus.specs.Reactions.{zeros}
use Rattle.savers.specs.Rows.{Row}
use Rattle.racks.specs.declared.rack.Rack.{Ghosts}
use Rattle.racks.specs.Starts.{alone, with_words}
use Rattle.addressing.specs.Settings.{Setting, boards_of}
use Rattle.model.specs.Law.{SetUp}
use Rattle.bench.specs.declared.setup.Setup.{Setup}
use Rattle.bench.specs.Setups.{start_of, first_rows}

-- so a set-up's bench starts as the law asks
set_up_begun : (c : Setting) (starts : List Words) (rows : List Row) → length rows ≡ length c.rules → length starts ≡ boards_of c → SetUp c starts (with_words starts rows)
set_up_begun c starts rows level wide =
    let front = map alone starts in
    let long = length-map starts alone in
    let behind = drop (length front) rows in (
      length-append front behind ∙ omega (arith, long, length-drop (length front) rows, level, wide),
      wide,
      λ k kb. get_or_append_left front behind [] k (omega (arith, long)) ∙ get_or-map alone starts k zeros [] (omega arith),
    )

pub set_up_of : {R : Type 0} {rack : Ghosts R} (u : Setup R rack) → length (rack.rows u.rack) ≡ length rack.rules →
    (let s = start_of u in SetUp s.setting s.words (first_rows s))
set_up_of {rack = rack} u level =
    let s = start_of u in
    set_up_begun s.setting s.words s.rows level (length-take-le (min (length rack.rules) 8) u.starts (omega (arith, u.eight)))

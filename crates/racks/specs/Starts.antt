-- Rows that begin with start words.
use Rattle.std.specs.Prelude.{List, [], ◌∷◌, map}
use Rattle.rows.specs.Rows.{in_front}
use Rattle.bus.specs.declared.Words.{Words}
use Rattle.savers.specs.Rows.{Row}

-- a row that is a start alone
abbrev pub alone : Words → Row
alone w = w ∷ []

-- rows whose first ones are these words alone
abbrev pub with_words : List Words → List Row → List Row
with_words words rows = in_front (map alone words) rows

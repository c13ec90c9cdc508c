-- How many events stand, over all boards.
use Rattle.std.specs.Prelude.{ℕ, List, map, length}
use Rattle.model.specs.State.{Queues, flat, standing_of}

abbrev pub all_standing : List Queues → ℕ
all_standing boards = length (flat (map standing_of boards))

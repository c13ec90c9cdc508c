-- One board of several.
use Rattle.std.proofs.Common.{◌≡◌, ℕ, zero, suc, ◌<◌, List, [], ◌∷◌, map, length, get_or, refl, arith}
use Rattle.model.specs.State.{no_queues}
use Rattle.queues.specs.declared.board.BoardQueues.{BoardQueues}
use Rattle.queues.specs.Entries.{queues_of}

-- a board that is there
pub board_at : (bs : List BoardQueues) (k : ℕ) (d : BoardQueues) → k < length bs → get_or (map queues_of bs) k no_queues ≡ queues_of (get_or bs k d)
board_at [] k d h = absurd (omega arith)
board_at (b ∷ bs) zero d h = refl
board_at (b ∷ bs) (suc k) d h = board_at bs k d (omega arith)

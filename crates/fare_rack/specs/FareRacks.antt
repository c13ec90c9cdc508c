-- The rack's rules and rows. A rack of this type has just these as its ghost members: both compute to them.
use Rattle.std.specs.Prelude.{List, [], ◌∷◌}
use Rattle.bus.specs.Reactions.{Rule, zeros}
use Rattle.boards.specs.declared.fare_computer.FareComputer.{FareComputer}
use Rattle.boards.specs.declared.reader.Reader.{Reader}
use Rattle.boards.specs.declared.ticker.Ticker.{Ticker}
use Rattle.boards.specs.FareComputer.{fare_computer_rule}
use Rattle.boards.specs.Reader.{reader_rule}
use Rattle.boards.specs.Ticker.{ticker_rule}
use Rattle.boards.specs.contracts.fare_computer.FareComputerBoard.TheImpl.{ghosts as computer_board}
use Rattle.boards.specs.contracts.reader.ReaderBoard.TheImpl.{ghosts as reader_board}
use Rattle.boards.specs.contracts.ticker.TickerBoard.TheImpl.{ghosts as ticker_board}
use Rattle.savers.specs.declared.full_copies.FullCopies.{FullCopies}
use Rattle.savers.specs.declared.checkpoints.Checkpoints.{Checkpoints}
use Rattle.rows.specs.Held.{held}
use Rattle.savers.specs.Rows.{Row}
use Rattle.savers.specs.Replays.{replayed}
use Rattle.racks.specs.declared.one.One.{One}
use Rattle.racks.specs.declared.pair.Pair.{Pair}

-- by address
abbrev pub fare_rules : List Rule
fare_rules = fare_computer_rule ∷ reader_rule ∷ ticker_rule ∷ []

-- the type of the rack
abbrev pub Three : Type 0
Three = Pair (One (FullCopies FareComputer computer_board)) (Pair (One (Checkpoints Reader reader_board)) (One (FullCopies Ticker ticker_board)))

-- the row of each saver, by address
abbrev pub fare_rows : Three → List Row
fare_rows r =
    let computer = r.left.saver in
    let reader = r.right.left.saver in
    let ticker = r.right.right.saver in
    held computer.copies
    ∷ replayed reader_rule (held reader.checkpoints) (held reader.messages) reader.first
    ∷ held ticker.copies
    ∷ []

-- each board with four zeros, and nothing taken yet
abbrev pub rows_of_zeros : List Row
rows_of_zeros = (zeros ∷ []) ∷ (zeros ∷ []) ∷ (zeros ∷ []) ∷ []

-- The first of eight zeros are as many zeros as there are boards.
use Rattle.std.proofs.Common.{min, List, length, ap, arith}
use Rattle.std.proofs.lemmas.List.{take-replicate}
use Rattle.bus.specs.declared.Words.{Words}
use Rattle.bus.specs.Reactions.{zeros}
use Rattle.bench.specs.Setups.{Start}
use Rattle.bench.proofs.setup.Setup.new.Goals as goal

pub returns-clause-every_board_starts_with_zeros : goal.returns-clause-every_board_starts_with_zeros
returns-clause-every_board_starts_with_zeros g c =
    let with_starts : List Words → Start = λ ws. record { setting = record { rules = g.R.Rack.rules; end = c.args.end }; words = ws; rows = g.R.Rack.rows c.args.rack } in
    ap with_starts (take-replicate (min (length g.R.Rack.rules) 8) 8 zeros (omega arith))

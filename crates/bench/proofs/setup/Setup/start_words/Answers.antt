-- Other words for one of the boards, or none where no board is.
use Rattle.std.proofs.Common.{ℕ, ◌<◌, min, List, length, take, set, ap, ◌∙◌, arith}
use Rattle.std.proofs.Math.Seq.{take-set-lt}
use Rattle.bus.specs.declared.Words.{Words}
use Rattle.bench.specs.Setups.{Start}
use Rattle.bench.proofs.setup.Setup.start_words.Goals as goal

pub returns-clause-board_starts_with_the_words : goal.returns-clause-board_starts_with_the_words
returns-clause-board_starts_with_the_words g c =
    let u = c.args.self.now in
    let n = min (length g.R.Rack.rules) 8 in
    let k = c.args.board in
    let within : k < n = omega (arith, c.boards.ensures, c.if-board-boards.false) in
    let with_starts : List Words → Start = λ ws. record { setting = record { rules = g.R.Rack.rules; end = u.end }; words = ws; rows = g.R.Rack.rows u.rack } in
    ap with_starts (take-set-lt n u.starts c.from.result c.args.words (omega (arith, c.from.ensures)) ∙ ap (λ (i : ℕ). set (take n u.starts) i c.args.words) c.from.ensures)

-- The last numbers stand at the line's end, and before them there is room for the others.
use Rattle.std.proofs.Common.{◌≡◌, ◌*◌, ◌≤◌, length, take, drop, IsAscii}
use Rattle.report.proofs.Spaced.{tail, separator}
use Rattle.report.proofs.few.add_few.Given as goal

abbrev pub invariant-loop-number : goal.invariant-loop-number
invariant-loop-number l =
    let rest = l.number-iterator.iter.rest.now in
    record {
      front : rest ≡ take (length rest) l.numbers;
      room : length rest * 21 ≤ l.start;
      within : l.start ≤ 126;
      long : length l.line ≡ 126;
      put : drop l.start l.line ≡ tail l.behind (drop (length rest) l.numbers);
      between : l.separator ≡ separator l.behind (drop (length rest) l.numbers);
      ascii : IsAscii (drop l.start l.line);
    }

-- The savers before the iterator's place have begun.
use Rattle.std.proofs.Common.{◌≡◌, ◌≤◌, min, length, take, drop}
use Rattle.racks.specs.Starts.{with_words}
use Rattle.racks.proofs.rack.Rack.begin_all.Given as goal

abbrev pub invariant-loop-address : goal.invariant-loop-address
invariant-loop-address g l =
    let at = l.address-iterator.a.start in
    record {
      begun : g.Self.Rack.rows l.self ≡ with_words (take at l.starts) (g.Self.Rack.rows l.initial.self);
      within : at ≤ l.address-iterator.a.end;
      boards : l.address-iterator.a.end ≡ min (length g.Self.Rack.rules) 8;
      rest : l.address-iterator.b.rest.now ≡ drop at l.starts;
    }

-- One more saver has begun; in the end those of all boards have.
use Rattle.std.proofs.Common.{◌≡◌, [], ◌∷◌, length, drop, set, sym, ap, ◌∙◌, take, inl, inr, arith}
use Rattle.std.proofs.lemmas.List.{length-drop}
use Rattle.racks.specs.Starts.{with_words}
use Rattle.racks.proofs.Begins.{begun_more, rest_more}
use Rattle.racks.proofs.rack.Rack.begin_all.Goals as goal

pub loop-address-preserved : goal.loop-address-preserved
loop-address-preserved g c =
    let now = c.in-Some.ensures.steps in
    let before = c.loop-address.invariant in
    let rows = g.Self.Rack.rows in
    let starts = c.args.starts.now in
    let k = c.loop-address.address-iterator.a.start in
    let w = c.in-Some.start.now in
    let rest = c.next.new.self.b.rest.now in
    let next = sym before.rest ∙ now.1 in
    let more = begun_more starts k w rest next (rows c.args.self.now) (rows c.loop-address.self) (omega (arith, g.met.Self.Rack.level c.args.self.now)) before.begun in
    let left = rest_more starts k w rest next in
    let step = now.0.1.2 in
    record {
      begun = c.begin.ensures.left ∙ ap (λ i. set (rows c.loop-address.self) i (w ∷ [])) now.0.1.1 ∙ more ∙ sym (ap (λ i. with_words (take i starts) (rows c.args.self.now)) step);
      within = omega arith;
      boards = now.0.0 ∙ before.boards;
      rest = left ∙ sym (ap (λ i. drop i starts) step);
    }

pub returns : goal.returns
returns g c =
    let before = c.loop-address.invariant in
    let iter = c.loop-address.address-iterator in
    let at_end : iter.a.start ≡ iter.a.end = elim c.in-None.ensures.steps [
      | inl e ↦ omega arith
      | inr e ↦ omega (arith, ap length before.rest, length-drop iter.a.start c.args.starts.now)
    ] in
    before.begun ∙ ap (λ k. with_words (take k c.args.starts.now) (g.Self.Rack.rows c.args.self.now)) (at_end ∙ before.boards)

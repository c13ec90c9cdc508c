-- An offer that passes all tests is admitted.
use Rattle.std.proofs.Common.{arith}
use Rattle.bench.specs.Benches.{setting_of, state_of}
use Rattle.bench.proofs.Offers.{offered_is}
use Rattle.bench.proofs.running.Running.offer.Goals as goal

pub returns-clause-does_what_the_rule_says : goal.returns-clause-does_what_the_rule_says
returns-clause-does_what_the_rule_says g c =
    offered_is (setting_of c.args.self.now) (state_of c.args.self.now) c.args.time c.args.destination c.args.kind c.args.payload _
    (omega (arith, c.boards.ensures)) (omega arith) (omega (arith, c.line_time.ensures)) (omega arith) (omega (arith, c.len.ensures)) c.send.ensures

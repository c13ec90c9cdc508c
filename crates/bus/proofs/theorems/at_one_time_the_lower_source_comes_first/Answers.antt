-- By the key's first two entries; the example by computing.
use Rattle.std.proofs.Common.{refl, arith}
use Rattle.std.proofs.lemmas.Bool.Decides.{nat_tests}
use Rattle.bus.proofs.theorems.at_one_time_the_lower_source_comes_first.Goals as goal

pub returns : goal.returns
returns c = record { always = λ a b same lower. grind (arith, nat_tests); example = refl }

-- By the law of runs.
use Rattle.model.proofs.Law.{law}
use Rattle.model.proofs.theorems.committed_lines_are_the_sequential_log.Goals as goal

pub returns : goal.returns
returns c = law

-- Where memory is wanting, the law of runs holds too.
use Rattle.playing.proofs.FareRuns.{lawful_runs}
use Rattle.playing.proofs.play.Goals as goal

pub returns-in-Err-NoMemory-clause-lines_are_the_sequential_log : goal.returns-in-Err-NoMemory-clause-lines_are_the_sequential_log
returns-in-Err-NoMemory-clause-lines_are_the_sequential_log c = lawful_runs c.args.bytes.now

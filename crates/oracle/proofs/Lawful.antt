-- What holds of every log holds of the one that is printed.
use Rattle.std.proofs.Common.{ℕ, List}
use Rattle.sequential.proofs.Logs.{lawful, stays}
use Rattle.oracle.specs.Offers.{stimuli_from}
use Rattle.oracle.specs.Machines.{longest_log, setting, starts}
use Rattle.oracle.specs.Laws.{LogIsLawful, NothingComesAfterTheEnd}

pub log_is_lawful : (bytes : List ℕ) → LogIsLawful bytes
log_is_lawful bytes end calls read = lawful (setting end) starts (stimuli_from end 0 calls) longest_log

pub nothing_comes_after_the_end : (bytes : List ℕ) → NothingComesAfterTheEnd bytes
nothing_comes_after_the_end bytes end calls read none k = stays (setting end) starts (stimuli_from end 0 calls) longest_log k none

-- A search through the whole row finds what the row has.
use Rattle.queues.proofs.Searches.{found_is}
use Rattle.queues.proofs.held.holds.Goals as goal
use Rattle.std.proofs.Common.{rules}

pub returns : goal.returns
returns c = search (rules, found_is)

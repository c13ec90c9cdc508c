-- By its key, which tells messages apart.
use Rattle.bus.specs.Order.{message_total}
use Rattle.bus.proofs.theorems.messages_are_totally_ordered.Goals as goal

pub returns : goal.returns
returns c = message_total

-- By the orders of its parts.
use Rattle.bus.specs.Order.{sent_total}
use Rattle.bus.proofs.theorems.sent_records_are_totally_ordered.Goals as goal

pub returns : goal.returns
returns c = sent_total

-- What the memory of a transit stands for.
use Rattle.std.specs.Prelude.{ℕ, cond, List, length, Some, None, Option, nat_le, slice_index_or}
use Rattle.rows.specs.Held.{held}
use Rattle.model.specs.declared.item.Item.{Item}
use Rattle.model.specs.declared.item.Item.TheVariants.{Plus}
use Rattle.model.specs.Deliver.{no_message}
use Rattle.queues.specs.declared.transit.Transit.{Transit}

abbrev pub on_way : Transit → List Item
on_way t = held t.items

abbrev pub item_at : List Item → ℕ → Option Item
item_at xs i = cond (nat_le (length xs) i) None (Some (slice_index_or xs i (Plus no_message)))

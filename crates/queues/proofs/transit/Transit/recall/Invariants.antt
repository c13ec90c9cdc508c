-- What was sent so far has joined, cut to the places there are.
use Rattle.std.proofs.Common.{◌≡◌, ◌++◌, map, take}
use Rattle.model.specs.declared.item.Item.TheVariants.{Minus}
use Rattle.queues.specs.Memory.{messages_of}
use Rattle.queues.specs.Transits.{on_way}
use Rattle.queues.proofs.transit.Transit.recall.Given as goal

abbrev pub invariant-loop-sent : goal.invariant-loop-sent
invariant-loop-sent l = on_way l.self ≡ take 128 (on_way l.initial.self ++ map Minus (messages_of (take l.sent-index l.sends)))

-- What holds of the order of messages: statements that contracts name.
use Rattle.std.specs.Prelude.{◌≡◌, ◌<◌, true}
use Rattle.bus.specs.declared.Message.{Message}
use Rattle.bus.specs.Order.{message_before}

abbrev pub AtOneTimeTheLowerSourceComesFirst : Type 0
AtOneTimeTheLowerSourceComesFirst = (a b : Message) → a.time ≡ b.time → a.source < b.source → message_before a b ≡ true

-- (10,1,9,0,3,5) is before (10,255,0,1,2,77)
abbrev pub Board1ComesBeforeTheOutside : Type 0
Board1ComesBeforeTheOutside =
    message_before
    (record { time = 10; source = 1; number = 9; destination = 0; kind = 3; payload = 5 })
    (record { time = 10; source = 255; number = 0; destination = 1; kind = 2; payload = 77 })
    ≡ true

-- A batch of messages, and what one send becomes.
use Rattle.std.specs.Prelude.{ℕ, ◌%◌, ◌^◌, cond, List, map, Some, None, Option}
use Rattle.bus.specs.declared.Message.{Message}
use Rattle.bus.specs.declared.Send.{Send}
use Rattle.bus.specs.declared.up_to_two.UpToTwo.{UpToTwo}
use Rattle.addressing.specs.Settings.{passes, as_message}

-- the messages that one reaction sends: at most two, by the type
abbrev pub Batch : Type 0
Batch = UpToTwo Message

-- a message, or nothing where the send is dropped
abbrev pub one_addressed : ℕ → ℕ → ℕ → ℕ → ℕ → Send → Option Message
one_addressed boards end k t n x = cond (passes boards end t x) (Some (as_message k t n x)) None

-- the same message, its number cut to 32 bits: after the last number comes 0
abbrev pub in_32_bits : Message → Message
in_32_bits m = record { time = m.time; source = m.source; number = m.number % 2 ^ 32; destination = m.destination; kind = m.kind; payload = m.payload }

abbrev pub all_in_32_bits : List Message → List Message
all_in_32_bits ms = map in_32_bits ms

-- Sent records.
use Rattle.std.specs.Prelude.{List, map}
use Rattle.bus.specs.declared.Message.{Message}
use Rattle.bus.specs.declared.Sent.{Sent}

-- messages with the cause that sent them
abbrev pub sent_by : Message → List Message → List Sent
sent_by cause ms = map (λ (m : Message). record { message = m; cause = cause }) ms

abbrev pub messages_of : List Sent → List Message
messages_of xs = map (λ (s : Sent). s.message) xs

-- What is read with the limit is the front of the input.
use Rattle.console.proofs.Fronts.{front_read}
use Rattle.console.proofs.read_file.Goals as goal

pub returns : goal.returns
returns g c = front_read g.R.Read.remaining c.args.input _ _ 60001 _ _ c.take.ensures.inner c.take.ensures.limit c.new-file.ensures.items c.in_ok-read_to_end.ensures.bytes

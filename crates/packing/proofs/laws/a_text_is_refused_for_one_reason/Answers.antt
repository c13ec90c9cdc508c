-- The law, from its proof.
use Rattle.packing.proofs.Reasons.{refused_for_one_reason}
use Rattle.packing.proofs.laws.a_text_is_refused_for_one_reason.Goals as goal

pub returns : goal.returns
returns c = refused_for_one_reason

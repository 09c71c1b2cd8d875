use Rattle.proof_wire.proofs.api.Lengths.{no_prefix}
use Rattle.proof_wire.proofs.laws.no_prefix.Goals as goal

pub returns : goal.returns
returns c = no_prefix

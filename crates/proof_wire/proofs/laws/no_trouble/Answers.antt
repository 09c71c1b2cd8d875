use Rattle.proof_wire.proofs.api.Troubles.{faultless}
use Rattle.proof_wire.proofs.laws.no_trouble.Goals as goal

pub returns : goal.returns
returns c = faultless

use Rattle.proof_wire.proofs.api.OneTrouble.{one_trouble}
use Rattle.proof_wire.proofs.laws.one_trouble.Goals as goal

pub returns : goal.returns
returns c = one_trouble

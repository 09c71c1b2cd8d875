use Rattle.proof_wire.proofs.api.Apart.{one_reading}
use Rattle.proof_wire.proofs.laws.one_reading.Goals as goal

pub returns : goal.returns
returns c = one_reading

use Rattle.proof_two.proofs.api.Either.{any_reading}
use Rattle.proof_two.proofs.laws.one_reading.Goals as goal

pub returns : goal.returns
returns c = any_reading

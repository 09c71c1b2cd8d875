use Rattle.proof_two.proofs.api.Either.{any_faultless}
use Rattle.proof_two.proofs.laws.no_trouble.Goals as goal

pub returns : goal.returns
returns c = any_faultless

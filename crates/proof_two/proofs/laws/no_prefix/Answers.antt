use Rattle.proof_two.proofs.api.Either.{any_front}
use Rattle.proof_two.proofs.laws.no_prefix.Goals as goal

pub returns : goal.returns
returns c = any_front

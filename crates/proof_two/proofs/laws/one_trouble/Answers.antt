use Rattle.proof_two.proofs.api.Either.{any_trouble}
use Rattle.proof_two.proofs.OneTrouble.{one_trouble}
use Rattle.proof_two.proofs.laws.one_trouble.Goals as goal

pub returns-clause-two : goal.returns-clause-two
returns-clause-two c = one_trouble

pub returns-clause-any : goal.returns-clause-any
returns-clause-any c = any_trouble

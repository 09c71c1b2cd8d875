use Rattle.std.proofs.Common.{rules}
use Rattle.proof_two.proofs.pairs.RoundPair.coefficients.Goals as goal

pub returns : goal.returns
returns c = search rules

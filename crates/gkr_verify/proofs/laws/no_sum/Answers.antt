use Rattle.gkr_verify.proofs.api.Filled.{no_sum}
use Rattle.gkr_verify.proofs.laws.no_sum.Goals as goal

pub returns : goal.returns
returns c = no_sum

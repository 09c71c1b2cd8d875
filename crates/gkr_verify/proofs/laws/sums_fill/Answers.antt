use Rattle.gkr_verify.proofs.api.Filled.{sums-fill}
use Rattle.gkr_verify.proofs.laws.sums_fill.Goals as goal

pub returns : goal.returns
returns c = sums-fill

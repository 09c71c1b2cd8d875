use Rattle.gkr_verify.proofs.api.Filled.{filled-hold}
use Rattle.gkr_verify.proofs.laws.filled_sums_hold.Goals as goal

pub returns : goal.returns
returns c = filled-hold

use Rattle.gkr_verify.proofs.api.Filled.{accepted_sums}
use Rattle.gkr_verify.proofs.laws.accepted_sums_hold.Goals as goal

pub returns : goal.returns
returns c = accepted_sums

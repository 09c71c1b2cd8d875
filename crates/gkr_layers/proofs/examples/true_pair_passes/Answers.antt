use Rattle.gkr_layers.proofs.Passing.{pair_accepted, pair_claim}
use Rattle.gkr_layers.proofs.examples.true_pair_passes.Goals as goal

pub returns-clause-accepted : goal.returns-clause-accepted
returns-clause-accepted c = pair_accepted

pub returns-clause-claim : goal.returns-clause-claim
returns-clause-claim c = pair_claim

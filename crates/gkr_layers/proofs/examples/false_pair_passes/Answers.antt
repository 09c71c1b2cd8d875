use Rattle.gkr_layers.proofs.Passing.{false_pair_accepted, false_pair_exceptional, false_pair_only}
use Rattle.gkr_layers.proofs.examples.false_pair_passes.Goals as goal

pub returns-clause-accepted : goal.returns-clause-accepted
returns-clause-accepted c = false_pair_accepted

pub returns-clause-exceptional : goal.returns-clause-exceptional
returns-clause-exceptional c = false_pair_exceptional

pub returns-clause-no_others : goal.returns-clause-no_others
returns-clause-no_others c = false_pair_only

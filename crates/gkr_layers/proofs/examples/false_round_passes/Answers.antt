use Rattle.gkr_layers.proofs.Passing.{copy_wrong, round_accepted, round_exceptional, round_zero, round_only}
use Rattle.gkr_layers.proofs.examples.false_round_passes.Goals as goal

pub returns-clause-wrong : goal.returns-clause-wrong
returns-clause-wrong c = copy_wrong

pub returns-clause-accepted : goal.returns-clause-accepted
returns-clause-accepted c = round_accepted

pub returns-clause-exceptional : goal.returns-clause-exceptional
returns-clause-exceptional c = round_exceptional

pub returns-clause-other : goal.returns-clause-other
returns-clause-other c = round_zero

pub returns-clause-no_others : goal.returns-clause-no_others
returns-clause-no_others c = round_only

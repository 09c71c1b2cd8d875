use Rattle.gkr_layers.proofs.Passing.{product_wrong, output_accepted, output_exceptional, output_only}
use Rattle.gkr_layers.proofs.examples.false_output_passes.Goals as goal

pub returns-clause-wrong : goal.returns-clause-wrong
returns-clause-wrong c = product_wrong

pub returns-clause-accepted : goal.returns-clause-accepted
returns-clause-accepted c = output_accepted

pub returns-clause-exceptional : goal.returns-clause-exceptional
returns-clause-exceptional c = output_exceptional

pub returns-clause-no_others : goal.returns-clause-no_others
returns-clause-no_others c = output_only

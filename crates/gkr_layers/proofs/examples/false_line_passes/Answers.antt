use Rattle.gkr_layers.proofs.Passing.{line_accepted, line_exceptional, line_only}
use Rattle.gkr_layers.proofs.examples.false_line_passes.Goals as goal

pub returns-clause-accepted : goal.returns-clause-accepted
returns-clause-accepted c = line_accepted

pub returns-clause-exceptional : goal.returns-clause-exceptional
returns-clause-exceptional c = line_exceptional

pub returns-clause-no_others : goal.returns-clause-no_others
returns-clause-no_others c = line_only

use Rattle.gkr_layers.proofs.api.Answers.{answer_from-verdict, all_taken}
use Rattle.gkr_layers.proofs.laws.answers.Goals as goal

pub returns-clause-verdict : goal.returns-clause-verdict
returns-clause-verdict c = answer_from-verdict

pub returns-clause-accepted : goal.returns-clause-accepted
returns-clause-accepted c = all_taken

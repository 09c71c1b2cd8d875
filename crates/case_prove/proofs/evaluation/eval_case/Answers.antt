use Rattle.std.proofs.Common.{rules}
use Rattle.case_prove.proofs.evaluation.eval_case.Goals as goal

pub returns-in-Ok-eval-clause-outputs : goal.returns-in-Ok-eval-clause-outputs
returns-in-Ok-eval-clause-outputs c = search rules

pub returns-clause-refused : goal.returns-clause-refused
returns-clause-refused c = search rules

pub returns-in-Err-clause-refused : goal.returns-in-Err-clause-refused
returns-in-Err-clause-refused c = search rules

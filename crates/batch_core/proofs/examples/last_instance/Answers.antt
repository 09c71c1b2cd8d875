use Rattle.batch_core.proofs.Worked.{first_output, third_output, fourth_output, first_weight, second_weight, third_weight}
use Rattle.batch_core.proofs.examples.last_instance.Goals as goal

pub returns-clause-first : goal.returns-clause-first
returns-clause-first c = first_output

pub returns-clause-third : goal.returns-clause-third
returns-clause-third c = third_output

pub returns-clause-fourth : goal.returns-clause-fourth
returns-clause-fourth c = fourth_output

pub returns-clause-weight_first : goal.returns-clause-weight_first
returns-clause-weight_first c = first_weight

pub returns-clause-weight_second : goal.returns-clause-weight_second
returns-clause-weight_second c = second_weight

pub returns-clause-weight_third : goal.returns-clause-weight_third
returns-clause-weight_third c = third_weight

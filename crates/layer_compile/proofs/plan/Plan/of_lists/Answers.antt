use Rattle.std.proofs.lemmas.Grind.{common_steps}
-- The circuit is made of the lists
use Rattle.std.proofs.Common.{◌+◌, arith, rules}
use Rattle.layer_compile.proofs.api.NoFault.{size_small}
use Rattle.layer_compile.proofs.plan.Plan.of_lists.Goals as goal

pub overflow_cast-input_width : goal.overflow_cast-input_width
overflow_cast-input_width c = omega (arith, c.size_for-input_width.ensures, size_small (1 + c.len.result))

pub overflow_add-len : goal.overflow_add-len
overflow_add-len g = search rules

pub overflow_cast-outputs : goal.overflow_cast-outputs
overflow_cast-outputs g = search rules

pub of_faultless-requires-clause-some : goal.of_faultless-requires-clause-some
of_faultless-requires-clause-some g = search rules

pub returns : goal.returns
returns g = grind (arith, common_steps)

use Rattle.std.proofs.Common.{rules}
use Rattle.circuit_eval.proofs.layer.fn.evaluate_side_by_side.par_for_each_mut.Goals as goal

pub returns : goal.returns
returns c = search rules

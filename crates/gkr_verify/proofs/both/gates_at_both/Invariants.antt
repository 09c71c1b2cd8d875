use Rattle.std.proofs.Common.{◌*◌, length, min}
use Rattle.field_ext.specs.Field.{add_k}
use Rattle.gkr_verify.specs.Blocks.{with_factors}
use Rattle.gkr_verify.proofs.BothSteps.{IsSumFrom, add_term, mul_term}
use Rattle.gkr_verify.proofs.both.gates_at_both.Given as goal

abbrev pub invariant-loop-g : goal.invariant-loop-g
invariant-loop-g l = record {
  add : IsSumFrom l.gates (add_term l.first l.second l.fn.weight l.fn.left l.fn.right) l.g (add_k l.sums.add (with_factors l.both l.block l.shares.add));
  mul : IsSumFrom l.gates (mul_term l.first l.second l.fn.weight l.fn.left l.fn.right) l.g (add_k l.sums.mul (with_factors l.both l.block l.shares.mul));
}

abbrev pub invariant-loop-block : goal.invariant-loop-block
invariant-loop-block l = record {
  add : IsSumFrom l.gates (add_term l.first l.second l.fn.weight l.fn.left l.fn.right) (min (length l.gates) (1024 * l.block)) l.sums.add;
  mul : IsSumFrom l.gates (mul_term l.first l.second l.fn.weight l.fn.left l.fn.right) (min (length l.gates) (1024 * l.block)) l.sums.mul;
}

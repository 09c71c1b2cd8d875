-- The blocks passed are made
use Rattle.std.proofs.Common.{◌*◌, get_or}
use Rattle.field_ext.specs.Field.{add_k, mul_k, zero_k}
use Rattle.gate_gather.specs.Scaling.{IsMade}
use Rattle.gate_gather.proofs.scaling.scale_by.Given as goal

abbrev pub invariant-loop-number : goal.invariant-loop-number
invariant-loop-number l = record {
  scales : IsMade 0 (2048 * l.number) l.fn.scales l.scales (λ x. add_k (get_or l.fn.shifts x zero_k) (mul_k l.value (get_or l.fn.scales x zero_k)));
  shifts : IsMade 0 (2048 * l.number) l.fn.shifts l.shifts (λ x. mul_k l.value (get_or l.fn.shifts x zero_k));
}

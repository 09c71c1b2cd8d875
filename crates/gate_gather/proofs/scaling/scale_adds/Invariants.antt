-- The places passed are made
use Rattle.std.proofs.Common.{◌-◌, get_or}
use Rattle.field_ext.specs.Field.{mul_k, zero_k}
use Rattle.gate_gather.specs.Scaling.{IsMade}
use Rattle.gate_gather.proofs.scaling.scale_adds.Given as goal

abbrev pub invariant-loop-i : goal.invariant-loop-i
invariant-loop-i l = record {
  scales : IsMade l.from (l.i - l.from) l.fn.scales l.scales (λ x. get_or l.fn.shifts x zero_k);
  shifts : IsMade l.from (l.i - l.from) l.fn.shifts l.shifts (λ x. mul_k l.value (get_or l.fn.shifts x zero_k));
}

-- What is multiplied so far, and the product over the coordinates that are left
use Rattle.std.proofs.Common.{◌≡◌, drop}
use Rattle.field_ext.specs.Field.{k_ops, mul_k}
use Rattle.batch_core.specs.CopiedWiring.{same_bits}
use Rattle.batch_core.proofs.copied_wiring.same_copy.Given as goal

abbrev pub invariant-loop-i : goal.invariant-loop-i
invariant-loop-i l = mul_k l.product (same_bits k_ops (drop l.i l.first) (drop l.i l.second) (drop l.i l.third)) ≡ same_bits k_ops l.first l.second l.third

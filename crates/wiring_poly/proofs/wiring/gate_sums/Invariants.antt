use Rattle.std.proofs.Common.{◌≡◌, drop}
use Rattle.field_ext.specs.Field.{k_ops, add_k, zero_k}
use Rattle.wiring_poly.specs.Wiring.{by_kind, sum_gates, gate_weight, wiring_add, wiring_mul}
use Rattle.wiring_poly.proofs.wiring.gate_sums.Given as goal

abbrev pub invariant-loop-g : goal.invariant-loop-g
invariant-loop-g l = record {
  add : add_k l.sums.add (sum_gates k_ops l.g (drop l.g l.gates) (λ g gate. by_kind gate.kind (gate_weight k_ops l.z l.b l.c g gate) zero_k)) ≡ wiring_add k_ops l.gates l.z l.b l.c;
  mul : add_k l.sums.mul (sum_gates k_ops l.g (drop l.g l.gates) (λ g gate. by_kind gate.kind zero_k (gate_weight k_ops l.z l.b l.c g gate))) ≡ wiring_mul k_ops l.gates l.z l.b l.c;
}

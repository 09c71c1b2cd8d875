-- The runs passed are summed
use Rattle.std.proofs.Common.{◌≡◌, ◌+◌, ◌*◌, ◌≤◌, drop, length, max}
use Rattle.field_ext.specs.Field.{k_ops, add_k, zero_k}
use Rattle.wiring_poly.specs.Wiring.{by_kind, wiring_add, wiring_mul}
use Rattle.run_wiring.specs.Entries.{share}
use Rattle.run_wiring.specs.Runs.{gates_of}
use Rattle.run_wiring.proofs.RunSums.{sum_runs}
use Rattle.run_wiring.proofs.wiring.wiring_sums.Given as goal

abbrev pub invariant-loop-run : goal.invariant-loop-run
invariant-loop-run g l = record {
  add : add_k l.sums.add (sum_runs k_ops (drop l.run-index l.runs) (λ run. by_kind run.kind (share l.z l.b l.c run) zero_k)) ≡ wiring_add k_ops (gates_of l.runs) l.z l.b l.c;
  mul : add_k l.sums.mul (sum_runs k_ops (drop l.run-index l.runs) (λ run. by_kind run.kind zero_k (share l.z l.b l.c run))) ≡ wiring_mul k_ops (gates_of l.runs) l.z l.b l.c;
  steps : l.steps ≤ l.fn.steps + 72 * max (length l.z) (length l.b) * l.run-index;
}

use Rattle.std.proofs.Common.{◌≡◌, ◌+◌, ◌^◌, length}
use Rattle.field_ext.specs.Field.{K, k_ops}
use Rattle.line_reduce.specs.Rows.{AreWeights}
use Rattle.line_reduce.proofs.weights.fill_weights.Given as goal

abbrev pub invariant-loop-j : goal.invariant-loop-j
invariant-loop-j l = record {
  size : l.size ≡ 2 ^ l.j;
  places : length l.weights ≡ length l.fn.weights;
  weights : (e : K) → AreWeights k_ops l.j (l.known + 1) l.weights l.b l.c e;
}

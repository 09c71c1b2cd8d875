-- The sums so far are the first coefficients of the sum, and the buffer is that of all
use Rattle.std.proofs.Common.{◌≡◌, ◌≤◌, vec_capacity, take}
use Rattle.field_ext.specs.Field.{k_ops}
use Rattle.field_ext.specs.Polynomial.{sum_of}
use Rattle.poly_roots.proofs.product.sum.Given as goal

abbrev pub invariant-loop-i : goal.invariant-loop-i
invariant-loop-i l = record {
  done : l.sums.items ≡ take l.i (sum_of k_ops l.left l.right);
  capacity : l.size ≤ vec_capacity l.sums;
}

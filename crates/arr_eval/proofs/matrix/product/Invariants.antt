use Rattle.std.proofs.Common.{◌≡◌, ◌≤◌, ◌+◌, ◌*◌, ◌^◌}
use Rattle.field_ext.specs.Field.{of, mul_f}
use Rattle.arr_eval.specs.Numbers.{element, at_places, sum_of}
use Rattle.arr_eval.proofs.matrix.product.Given as goal

abbrev pub invariant-each : goal.invariant-each
invariant-each l = record {
  small : l.total ≤ l.l * 2 ^ 32;
  value : of l.total ≡ sum_of (at_places l.l (λ k. mul_f (element l.left (l.i * l.m + k)) (element l.right (k * l.q + l.j))));
}

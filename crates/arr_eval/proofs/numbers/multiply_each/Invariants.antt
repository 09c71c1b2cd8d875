use Rattle.std.proofs.Common.{◌≡◌}
use Rattle.field_ext.specs.Field.{mul_f}
use Rattle.arr_eval.proofs.InPlace.{combined}
use Rattle.arr_eval.proofs.numbers.multiply_each.Given as goal

abbrev pub invariant-each : goal.invariant-each
invariant-each l = l.left ≡ combined mul_f l.i l.fn.left l.right

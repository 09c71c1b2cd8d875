use Rattle.std.proofs.Common.{◌≡◌}
use Rattle.field_ext.specs.Field.{sub_f}
use Rattle.arr_eval.proofs.InPlace.{combined}
use Rattle.arr_eval.proofs.numbers.subtract_each.Given as goal

abbrev pub invariant-each : goal.invariant-each
invariant-each l = l.left ≡ combined sub_f l.i l.fn.left l.right

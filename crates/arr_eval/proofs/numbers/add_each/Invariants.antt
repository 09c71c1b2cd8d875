use Rattle.std.proofs.Common.{◌≡◌}
use Rattle.field_ext.specs.Field.{add_f}
use Rattle.arr_eval.proofs.InPlace.{combined}
use Rattle.arr_eval.proofs.numbers.add_each.Given as goal

abbrev pub invariant-each : goal.invariant-each
invariant-each l = l.left ≡ combined add_f l.i l.fn.left l.right

use Rattle.std.proofs.Common.{◌≡◌}
use Rattle.field_ext.specs.Field.{mul_f}
use Rattle.arr_eval.proofs.InPlace.{changed}
use Rattle.arr_eval.proofs.numbers.scale_each.Given as goal

abbrev pub invariant-each : goal.invariant-each
invariant-each l = l.items ≡ changed (mul_f l.scale) l.i l.fn.items

use Rattle.std.proofs.Common.{◌≡◌}
use Rattle.field_ext.specs.Field.{neg_f}
use Rattle.arr_eval.proofs.InPlace.{changed}
use Rattle.arr_eval.proofs.numbers.negate_each.Given as goal

abbrev pub invariant-each : goal.invariant-each
invariant-each l = l.items ≡ changed neg_f l.i l.fn.items

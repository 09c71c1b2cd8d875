use Rattle.std.proofs.Common.{◌≡◌, ◌+◌, ◌*◌}
use Rattle.arr_eval.specs.Numbers.{at_places, product_place}
use Rattle.arr_eval.proofs.matrix.add_row.Given as goal

abbrev pub invariant-each : goal.invariant-each
invariant-each l = l.found.items ≡ at_places (l.i * l.q + l.j) (product_place l.m l.q l.left l.right)

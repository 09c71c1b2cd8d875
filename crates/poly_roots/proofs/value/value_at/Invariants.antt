-- The value so far is that of the coefficients from the loop's place on
use Rattle.std.proofs.Common.{◌≡◌, ◌-◌, length, drop}
use Rattle.field_ext.specs.Field.{k_ops}
use Rattle.field_ext.specs.Polynomial.{value_at}
use Rattle.poly_roots.proofs.value.value_at.Given as goal

abbrev pub invariant-loop-done : goal.invariant-loop-done
invariant-loop-done l = l.value ≡ value_at k_ops (drop (length l.coefficients - l.done) l.coefficients) l.e

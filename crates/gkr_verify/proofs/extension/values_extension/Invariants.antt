use Rattle.std.proofs.Common.{◌+◌, ◌^◌, length}
use Rattle.field_ext.specs.Field.{k_ops}
use Rattle.field_ext.specs.Multilinear.{eq_poly}
use Rattle.gkr_verify.proofs.TableSteps.{IsSumTo}
use Rattle.gkr_verify.proofs.extension.values_extension.Given as goal

abbrev pub invariant-loop-i : goal.invariant-loop-i
invariant-loop-i l = IsSumTo (2 ^ length l.point) l.values (eq_poly k_ops l.point) (l.i + 1) l.sum

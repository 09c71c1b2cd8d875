-- The table left has the extension of the whole at the coordinates bound
use Rattle.std.proofs.Common.{◌≡◌, ◌-◌, ◌^◌, drop, length, vec_len}
use Rattle.field_ext.specs.Field.{k_ops}
use Rattle.field_ext.specs.Multilinear.{extension_at}
use Rattle.mle_table.proofs.values.eval_values.Given as goal

abbrev pub invariant-loop-r : goal.invariant-loop-r
invariant-loop-r l = record {
  size : vec_len l.values ≡ 2 ^ (length l.point - l.r-index);
  same : extension_at k_ops k_ops (λ x. x) l.values.items (drop l.r-index l.point) ≡ extension_at k_ops k_ops (λ x. x) l.fn.values.items l.point;
}

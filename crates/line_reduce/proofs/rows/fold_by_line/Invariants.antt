use Rattle.std.proofs.Common.{◌≡◌, ◌+◌, ◌-◌, ◌*◌, ◌^◌, ◌≤◌, List, length}
use Rattle.field_ext.specs.Field.{K, k_ops}
use Rattle.line_reduce.specs.Rows.{HaveFolds}
use Rattle.line_reduce.proofs.rows.fold_by_line.Given as goal

abbrev pub invariant-loop-j : goal.invariant-loop-j
invariant-loop-j l = record {
  count : l.count ≡ 2 ^ (length l.b - l.j);
  size : l.count * (l.j + 1) ≤ length l.rows;
  folds : (t : List K) (e : K) → HaveFolds k_ops l.from (2 ^ (length l.b - l.from)) l.fn.rows t l.b l.c e → HaveFolds k_ops l.j l.count l.rows t l.b l.c e;
}

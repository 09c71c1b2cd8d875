-- The table is folded by the coordinates before, none of which makes it zero
use Rattle.std.proofs.Common.{◌≡◌, ℕ, ◌+◌, ◌<◌, take, get_or}
use Rattle.field_ext.specs.Field.{k_ops, zero_k}
use Rattle.field_ext.specs.Polynomial.{IsZero}
use Rattle.field_ext.specs.Multilinear.{folded_all}
use Rattle.gkr_layers.specs.Sumcheck.{IsExceptionalFold}
use Rattle.audit_core.proofs.outputs.first_zeroed.Given as goal

abbrev pub invariant-loop-n : goal.invariant-loop-n
invariant-loop-n l = record {
  coordinates : l.table.k + l.n ≡ l.fn.table.k;
  folded : l.table.items ≡ folded_all k_ops l.fn.table.items (take l.n l.point);
  remains : ¬ IsZero k_ops l.table.items;
  none_before : (m : ℕ) → m < l.n → ¬ IsExceptionalFold k_ops l.fn.table.items (take m l.point) (get_or l.point m zero_k);
}

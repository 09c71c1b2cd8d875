use Rattle.std.proofs.Common.{◌≡◌, ◌≤◌, ◌^◌, drop}
use Rattle.std.specs.Prelude.{nat_abs}
use Rattle.arr_ast.specs.IndexTree.{sum_tree, product_tree}
use Rattle.arr_scope.specs.Index.{index_value, index_term_value}
use Rattle.arr_scope.proofs.IndexRows.{added_values, times_values}
use Rattle.arr_scope.proofs.index.+index.Given as goal

abbrev pub invariant-index_value-each : goal.invariant-index_value-each
invariant-index_value-each g l = record {
  value : index_value l.scope l.whole (sum_tree l.index) ≡ added_values l.scope l.whole (drop l.added-index l.added-items) l.value;
  small : nat_abs l.value ≤ 2 ^ 31;
}

abbrev pub invariant-term_value-each : goal.invariant-term_value-each
invariant-term_value-each g l = record {
  value : index_term_value l.scope l.whole (product_tree l.term) ≡ times_values l.scope l.whole (drop l.times-index l.times-items) l.value;
  small : nat_abs l.value ≤ 2 ^ 31;
}

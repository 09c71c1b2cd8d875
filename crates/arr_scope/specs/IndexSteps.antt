-- What is found at one link of an index expression's chain: rows of the definitions once more, each by itself.
-- Contracts of private functions alone speak of them, so nobody has to read them to know what an index is.
use Rattle.std.specs.Prelude.{ℕ, ℤ, ◌*ℤ◌}
use Rattle.arr_ast.specs.declared.index.AddedIndexTerm.{AddedIndexTerm, AddedIndexTerm'}
use Rattle.arr_ast.specs.declared.index.TimesIndexFactor.{TimesIndexFactor}
use Rattle.arr_ast.specs.IndexTree.{product_tree, factor_tree as index_factor_tree}
use Rattle.arr_scope.specs.Agrees.{Answer, ◌>>=◌}
use Rattle.arr_scope.specs.Index.{index_term_value, index_factor_value, signed, within}
use Rattle.arr_scope.specs.Scope.{Names}

abbrev pub added_index_term_value : {A : Type 0} → Names A → ℕ → AddedIndexTerm → ℤ → Answer ℤ
added_index_term_value scope whole (AddedIndexTerm' sign at term) left =
    index_term_value scope whole (product_tree term) >>= λ right.
    within whole (signed sign left right)

abbrev pub times_index_factor_value : {A : Type 0} → Names A → ℕ → TimesIndexFactor → ℤ → Answer ℤ
times_index_factor_value scope whole times left =
    index_factor_value scope whole (index_factor_tree times.factor) >>= λ right.
    within whole (left *ℤ right)

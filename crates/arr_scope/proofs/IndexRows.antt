-- The values of index expressions whose parts are vectors.
use Rattle.std.proofs.Common.{◌≡◌, ℕ, List, [], ◌∷◌, Ok, refl, ap, ◌∙◌}
use Rattle.std.specs.Prelude.{ℤ, ◌*ℤ◌}
use Rattle.arr_ast.specs.declared.index.IndexExpression.{IndexExpression, Row_of-AddedIndexTerm, end_of-AddedIndexTerm, more_of-AddedIndexTerm, items-the_row-AddedIndexTerm, items_hidden-the_row-AddedIndexTerm-0, out-IndexExpression, is-IndexExpression'}
use Rattle.arr_ast.specs.declared.index.IndexTerm.{IndexTerm, Row_of-TimesIndexFactor, end_of-TimesIndexFactor, more_of-TimesIndexFactor, items-the_row-TimesIndexFactor, items_hidden-the_row-TimesIndexFactor-1, out-IndexTerm, is-IndexTerm'}
use Rattle.arr_ast.specs.declared.index.IndexFactor.TheBlock.{hidden-the_row-AddedIndexTerm-0, hidden-the_row-TimesIndexFactor-1}
use Rattle.arr_ast.specs.declared.index.AddedIndexTerm.{AddedIndexTerm, AddedIndexTerm', out-AddedIndexTerm, is-AddedIndexTerm'}
use Rattle.arr_ast.specs.declared.index.TimesIndexFactor.{TimesIndexFactor}
use Rattle.std.proofs.lemmas.Int.{to_z-of_z}
use Rattle.arr_scope.specs.Agrees.{Answer, ◌>>=◌}
use Rattle.arr_scope.specs.Index.{within, signed, index_value, added_index_value, index_term_value, times_index_value, index_factor_value, index_at, index_term_at, index_factor_at}
use Rattle.arr_scope.specs.Scope.{Names}
use Rattle.arr_scope.specs.IndexSteps.{added_index_term_value, times_index_factor_value}
use Rattle.arr_ast.specs.IndexTree.{sum_tree, terms_tree, product_tree, factors_tree, factor_tree}

abbrev pub added_values : {A : Type 0} → Names A → ℕ → List AddedIndexTerm → ℤ → Answer ℤ
added_values scope whole [] value = Ok value
added_values scope whole (term ∷ terms) value = added_index_term_value scope whole term value >>= λ value. added_values scope whole terms value

added_index_value-items : {A : Type 0} {n : _} (scope : Names A) (whole : ℕ) (added : Row_of-AddedIndexTerm n) (value : ℤ) → added_index_value scope whole (terms_tree added) value ≡ added_values scope whole (items-the_row-AddedIndexTerm n added) value
added_index_value-items scope whole end_of-AddedIndexTerm value = refl
added_index_value-items scope whole (more_of-AddedIndexTerm (AddedIndexTerm' sign at term) rest) value =
    λ i. added_index_term_value scope whole (AddedIndexTerm' sign at term) value >>= λ value. added_index_value-items scope whole rest value i

pub index_value-out : {A : Type 0} (scope : Names A) (whole : ℕ) (index : IndexExpression) → index_value scope whole (sum_tree index) ≡
    (index_term_value scope whole (product_tree (out-IndexExpression index).first) >>= λ value. added_values scope whole (out-IndexExpression index).added.items value)
index_value-out scope whole index =
    ap (λ e. index_value scope whole (sum_tree e)) (is-IndexExpression' index)
    ∙ (λ i. index_term_value scope whole (product_tree (out-IndexExpression index).first) >>= λ value.
    (added_index_value-items scope whole (hidden-the_row-AddedIndexTerm-0 (out-IndexExpression index).added) value
    ∙ ap (λ terms. added_values scope whole terms value) (items_hidden-the_row-AddedIndexTerm-0 (out-IndexExpression index).added)) i)

pub added_index_term_value-out : {A : Type 0} (scope : Names A) (whole : ℕ) (term : AddedIndexTerm) (left : ℤ) → added_index_term_value scope whole term left ≡
    (index_term_value scope whole (product_tree (out-AddedIndexTerm term).term) >>= λ right. within whole (signed (out-AddedIndexTerm term).sign left right))
added_index_term_value-out scope whole term left = ap (λ t. added_index_term_value scope whole t left) (is-AddedIndexTerm' term)

abbrev pub times_values : {A : Type 0} → Names A → ℕ → List TimesIndexFactor → ℤ → Answer ℤ
times_values scope whole [] value = Ok value
times_values scope whole (times ∷ factors) value = times_index_factor_value scope whole times value >>= λ value. times_values scope whole factors value

times_index_value-items : {A : Type 0} {n : _} (scope : Names A) (whole : ℕ) (times : Row_of-TimesIndexFactor n) (value : ℤ) → times_index_value scope whole (factors_tree times) value ≡ times_values scope whole (items-the_row-TimesIndexFactor n times) value
times_index_value-items scope whole end_of-TimesIndexFactor value = refl
times_index_value-items scope whole (more_of-TimesIndexFactor at factor rest) left =
    λ i. (index_factor_value scope whole (factor_tree factor) >>= λ right. within whole (left *ℤ right)) >>= λ value. times_index_value-items scope whole rest value i

pub index_term_value-out : {A : Type 0} (scope : Names A) (whole : ℕ) (term : IndexTerm) → index_term_value scope whole (product_tree term) ≡
    (index_factor_value scope whole (factor_tree (out-IndexTerm term).first) >>= λ value. times_values scope whole (out-IndexTerm term).times.items value)
index_term_value-out scope whole term =
    ap (λ t. index_term_value scope whole (product_tree t)) (is-IndexTerm' term)
    ∙ (λ i. index_factor_value scope whole (factor_tree (out-IndexTerm term).first) >>= λ value.
    (times_index_value-items scope whole (hidden-the_row-TimesIndexFactor-1 (out-IndexTerm term).times) value
    ∙ ap (λ factors. times_values scope whole factors value) (items_hidden-the_row-TimesIndexFactor-1 (out-IndexTerm term).times)) i)

pub index_at-out : (index : IndexExpression) → index_at (sum_tree index) ≡ index_factor_at (factor_tree (out-IndexTerm (out-IndexExpression index).first).first)
index_at-out index = ap (λ e. index_at (sum_tree e)) (is-IndexExpression' index) ∙ ap (λ t. index_term_at (product_tree t)) (is-IndexTerm' (out-IndexExpression index).first)

pub ruleset of_indices = (index_value-out, added_index_term_value-out, index_term_value-out, index_at-out, to_z-of_z)

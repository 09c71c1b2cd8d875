use Rattle.batch_core.proofs.AtField.{k_copied_add, k_copied_mul, k_same}
use Rattle.batch_core.proofs.laws.product_form.Goals as goal

pub returns-clause-add : goal.returns-clause-add
returns-clause-add c = k_copied_add

pub returns-clause-mul : goal.returns-clause-mul
returns-clause-mul c = k_copied_mul

pub returns-clause-product : goal.returns-clause-product
returns-clause-product c = k_same

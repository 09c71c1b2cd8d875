-- Evaluation carries sums and products over any ring, at K
use Rattle.field_ext.specs.Field.{k_ops}
use Rattle.field_ext.proofs.api.KLaws.{k_laws}
use Rattle.poly_roots.proofs.api.Values.{value-sum, value-product}
use Rattle.poly_roots.proofs.laws.evaluation.Goals as goal

pub returns-clause-sums : goal.returns-clause-sums
returns-clause-sums c = value-sum k_ops k_laws

pub returns-clause-products : goal.returns-clause-products
returns-clause-products c = value-product k_ops k_laws

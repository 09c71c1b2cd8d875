use Rattle.field_ext.specs.Field.{k_ops}
use Rattle.field_ext.proofs.api.KLaws.{k_laws}
use Rattle.batch_core.proofs.api.Extensions.{weights_add, weight-before, weight-last}
use Rattle.batch_core.proofs.laws.weights.Goals as goal

pub returns-clause-sum : goal.returns-clause-sum
returns-clause-sum c = weights_add k_ops k_laws

pub returns-clause-before : goal.returns-clause-before
returns-clause-before c = weight-before k_ops k_laws

pub returns-clause-last : goal.returns-clause-last
returns-clause-last c = weight-last k_ops k_laws

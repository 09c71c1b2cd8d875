use Rattle.field_ext.specs.Field.{k_ops}
use Rattle.field_ext.proofs.api.KLaws.{k_laws}
use Rattle.batch_core.proofs.api.Extensions.{ext-copies, ext-instances}
use Rattle.batch_core.proofs.Inputs.{batch_extension}
use Rattle.batch_core.proofs.laws.extensions.Goals as goal

pub returns-clause-copies : goal.returns-clause-copies
returns-clause-copies c = ext-copies k_ops k_laws

pub returns-clause-instances : goal.returns-clause-instances
returns-clause-instances c = ext-instances k_ops k_laws

pub returns-clause-inputs : goal.returns-clause-inputs
returns-clause-inputs c = batch_extension

-- Three zeros
use Rattle.field_ext.specs.Field.{k_ops}
use Rattle.field_ext.proofs.api.KLaws.{k_laws}
use Rattle.sumcheck_prove.proofs.Summing.{none_summed}
use Rattle.sumcheck_prove.proofs.adding.no_message.Goals as goal

pub returns-clause-value : goal.returns-clause-value
returns-clause-value c e = none_summed k_ops k_laws c.zero-zero.result e c.zero-zero.ensures

use Rattle.field_ext.specs.Field.{k_ops}
use Rattle.gkr_layers.proofs.api.Degree.{length-round_polynomial, length-last}
use Rattle.gkr_layers.proofs.laws.degrees.Goals as goal

pub returns-clause-rounds : goal.returns-clause-rounds
returns-clause-rounds c = length-round_polynomial k_ops

pub returns-clause-last : goal.returns-clause-last
returns-clause-last c = length-last k_ops

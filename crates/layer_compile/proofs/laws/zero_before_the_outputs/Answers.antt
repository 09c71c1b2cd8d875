-- The first layer's values are 0, those of the outputs, and zeros
use Rattle.layer_compile.proofs.RowValues.{zero_at_0}
use Rattle.layer_compile.proofs.laws.zero_before_the_outputs.Goals as goal

pub returns : goal.returns
returns c = λ n inputs is. zero_at_0 n is inputs

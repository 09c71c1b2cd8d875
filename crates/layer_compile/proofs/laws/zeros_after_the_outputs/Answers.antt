-- The first layer's values are 0, those of the outputs, and zeros
use Rattle.layer_compile.proofs.RowValues.{zero_past}
use Rattle.layer_compile.proofs.laws.zeros_after_the_outputs.Goals as goal

pub returns : goal.returns
returns c = λ n inputs g is l. zero_past n is inputs g l

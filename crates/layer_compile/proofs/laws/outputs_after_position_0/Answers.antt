-- The first layer's values are 0, those of the outputs, and zeros
use Rattle.layer_compile.proofs.RowValues.{output_at}
use Rattle.layer_compile.proofs.laws.outputs_after_position_0.Goals as goal

pub returns : goal.returns
returns c = λ n inputs j is l. output_at n is inputs j l

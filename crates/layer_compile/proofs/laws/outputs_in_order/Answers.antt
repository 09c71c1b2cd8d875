use Rattle.layer_compile.proofs.RowValues.{outputs_right}
use Rattle.layer_compile.proofs.laws.outputs_in_order.Goals as goal

pub returns : goal.returns
returns c = λ n inputs is. outputs_right n is inputs

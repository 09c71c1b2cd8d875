use Rattle.arr_lower.proofs.api.Counted.{outputs-few}
use Rattle.arr_lower.proofs.laws.few_outputs.Goals as goal

pub returns : goal.returns
returns c = outputs-few

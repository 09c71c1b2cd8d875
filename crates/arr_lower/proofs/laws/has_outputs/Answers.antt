use Rattle.arr_lower.proofs.api.Counted.{has_outputs}
use Rattle.arr_lower.proofs.laws.has_outputs.Goals as goal

pub returns : goal.returns
returns c = has_outputs

use Rattle.std.proofs.Common.{rules}
use Rattle.arr_lower.proofs.operation.negations.Goals as goal

pub returns : goal.returns
returns c = search rules

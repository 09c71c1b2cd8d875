use Rattle.std.proofs.Common.{rules}
use Rattle.arr_lower.proofs.operation.difference.Goals as goal

pub returns : goal.returns
returns c = search rules

use Rattle.std.proofs.Common.{rules}
use Rattle.arr_lower.proofs.operator.single.Goals as goal

pub returns-in-Transpose-Matrix : goal.returns-in-Transpose-Matrix
returns-in-Transpose-Matrix c = search rules

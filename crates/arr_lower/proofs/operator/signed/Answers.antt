use Rattle.std.proofs.Common.{rules}
use Rattle.arr_lower.proofs.operator.signed.Goals as goal

pub returns-in-Minus : goal.returns-in-Minus
returns-in-Minus c = search rules

use Rattle.std.proofs.Common.{length}
use Rattle.arr_lower.proofs.sum.+sum.Given as goal

abbrev pub decreases-sum : goal.decreases-sum
decreases-sum l = length l.items.now

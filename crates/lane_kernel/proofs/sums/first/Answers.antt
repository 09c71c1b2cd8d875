use Rattle.std.proofs.Common.{rules}
use Rattle.lane_kernel.proofs.sums.first.Goals as goal

pub returns : goal.returns
returns c = search rules

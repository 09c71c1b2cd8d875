use Rattle.std.proofs.Common.{rules}
use Rattle.lane_kernel.proofs.sums.with.Goals as goal

pub returns-clause-value : goal.returns-clause-value
returns-clause-value c = search rules

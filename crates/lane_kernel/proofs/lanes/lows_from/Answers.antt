use Rattle.std.proofs.Common.{rules}
use Rattle.lane_kernel.proofs.lanes.lows_from.Goals as goal

pub returns-clause-lows : goal.returns-clause-lows
returns-clause-lows c = search rules

use Rattle.std.proofs.Common.{rules}
use Rattle.lane_kernel.proofs.lanes.store.Goals as goal

pub returns : goal.returns
returns c = search rules

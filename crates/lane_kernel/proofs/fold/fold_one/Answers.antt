use Rattle.std.proofs.Common.{rules}
use Rattle.lane_kernel.proofs.fold.fold_one.Goals as goal

pub returns-clause-re : goal.returns-clause-re
returns-clause-re c = search rules

use Rattle.std.proofs.Common.{rules}
use Rattle.lane_kernel.proofs.fold.fold_pairs.Goals as goal

pub returns-clause-re : goal.returns-clause-re
returns-clause-re c = search rules

pub returns-clause-im : goal.returns-clause-im
returns-clause-im c = search rules

use Rattle.gkr_layers.proofs.Few.{one_each, line_bounds_add, pair_bounds_add}
use Rattle.gkr_layers.proofs.laws.bounds_add.Goals as goal

pub returns-clause-one_each : goal.returns-clause-one_each
returns-clause-one_each c = one_each

pub returns-clause-lines : goal.returns-clause-lines
returns-clause-lines c = line_bounds_add

pub returns-clause-pairs : goal.returns-clause-pairs
returns-clause-pairs c = pair_bounds_add

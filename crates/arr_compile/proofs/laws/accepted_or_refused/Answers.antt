use Rattle.arr_compile.proofs.OneReading as one
use Rattle.arr_compile.proofs.laws.accepted_or_refused.Goals as goal

pub returns : goal.returns
returns c = one.not_both c.one_tree.ensures

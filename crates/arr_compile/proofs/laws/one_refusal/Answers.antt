use Rattle.arr_compile.proofs.OneReading as one
use Rattle.arr_compile.proofs.laws.one_refusal.Goals as goal

pub returns : goal.returns
returns c = one.one_refusal c.one_tree.ensures

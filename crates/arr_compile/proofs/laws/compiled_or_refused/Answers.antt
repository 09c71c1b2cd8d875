use Rattle.arr_compile.proofs.OneCircuit as one
use Rattle.arr_compile.proofs.laws.compiled_or_refused.Goals as goal

pub returns : goal.returns
returns c = one.compiled_or_refused c.one_tree.ensures

use Rattle.arr_compile.proofs.OneReading as one
use Rattle.arr_compile.proofs.laws.one_tree.Goals as goal

pub returns : goal.returns
returns c = one.one_tree c.one_program_tree.ensures

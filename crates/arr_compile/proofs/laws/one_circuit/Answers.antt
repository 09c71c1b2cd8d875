use Rattle.arr_compile.proofs.OneCircuit as one
use Rattle.arr_compile.proofs.laws.one_circuit.Goals as goal

pub returns : goal.returns
returns c = one.one_circuit c.one_tree.ensures

use Rattle.arr_compile.proofs.OneCircuit as one
use Rattle.arr_compile.proofs.laws.one_circuit_refusal.Goals as goal

pub returns : goal.returns
returns c = one.one_circuit_refusal c.one_tree.ensures

use Rattle.arr_compile.proofs.SoundCircuits.{no_fault, has_output, few_outputs}
use Rattle.arr_compile.proofs.laws.circuit_is_sound.Goals as goal

pub returns-clause-faultless : goal.returns-clause-faultless
returns-clause-faultless c = no_fault c.nodes_in_order.ensures.list c.no_fault.ensures

pub returns-clause-has_output : goal.returns-clause-has_output
returns-clause-has_output c = has_output c.has_outputs.ensures

pub returns-clause-few_outputs : goal.returns-clause-few_outputs
returns-clause-few_outputs c = few_outputs c.few_outputs.ensures

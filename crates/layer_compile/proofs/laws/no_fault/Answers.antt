-- A circuit that is laid out within the limits has no fault
use Rattle.layer_compile.proofs.api.NoFault.{faultless}
use Rattle.layer_compile.proofs.laws.no_fault.Goals as goal

pub returns : goal.returns
returns c = λ limits n kept is accepted. faultless limits kept n is accepted

use Rattle.std.proofs.Common.{rules}
use Rattle.case_prove.proofs.circuit.circuit_sizes.Goals as goal

pub returns : goal.returns
returns c = search rules

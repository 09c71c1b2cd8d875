use Rattle.gkr_cmd.proofs.DemoNodes.{has_circuit}
use Rattle.gkr_cmd.proofs.laws.demo_has_circuit.Goals as goal

pub returns : goal.returns
returns c = has_circuit

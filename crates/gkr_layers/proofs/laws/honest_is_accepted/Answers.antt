-- The verifier accepts honest messages
use Rattle.gkr_layers.proofs.api.Honest.{honest_of_circuit, honest_proof}
use Rattle.gkr_layers.proofs.laws.honest_is_accepted.Goals as goal

pub returns-clause-forms : goal.returns-clause-forms
returns-clause-forms c = honest_of_circuit

pub returns-clause-proofs : goal.returns-clause-proofs
returns-clause-proofs c = honest_proof

use Rattle.proof_two.specs.Kinds.{form_in}
use Rattle.case_prove.proofs.api.ProvedCases.{one_proved}
use Rattle.gkr_layers.specs.Places.Place.{At}
use Rattle.case_prove.proofs.laws.proved_is_one.Goals as goal

pub returns : goal.returns
returns c = λ kind. one_proved kind c.one_tree.ensures c.one_circuit.ensures (λ layers input z. c.honest_is_unique.ensures (form_in kind) layers input (At z))

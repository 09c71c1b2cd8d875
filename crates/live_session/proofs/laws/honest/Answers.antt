-- The list of messages is honest, and as long as the circuit takes
use Rattle.std.specs.Prelude.{take, drop}
use Rattle.circuit_core.specs.Parts.{input_table}
use Rattle.circuit_core.specs.Sound.{exponent_at}
use Rattle.gkr_layers.specs.Layers.{layers_of}
use Rattle.gkr_layers.specs.Places.Place.{At}
use Rattle.live_session.proofs.api.HonestList.{are_honest, length-honest}
use Rattle.live_session.proofs.laws.honest.Goals as goal

pub returns-clause-honest : goal.returns-clause-honest
returns-clause-honest c p inputs words = are_honest (layers_of p) (input_table p inputs) (At (take (exponent_at p 0) words)) (drop (exponent_at p 0) words)

pub returns-clause-count : goal.returns-clause-count
returns-clause-count c p inputs words = length-honest (layers_of p) (input_table p inputs) (At (take (exponent_at p 0) words)) (drop (exponent_at p 0) words)

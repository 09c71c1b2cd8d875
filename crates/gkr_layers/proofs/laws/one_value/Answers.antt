use Rattle.circuit_core.specs.Parts.{leaf_value, padded_values}
use Rattle.std.proofs.Common.{map, drop}
use Rattle.gkr_layers.proofs.api.Circuits.{over-embed}
use Rattle.gkr_layers.proofs.laws.one_value.Goals as goal

pub returns : goal.returns
returns c = λ p inputs i. over-embed p i (drop i p.layers) (padded_values p.input_width (map (leaf_value inputs) p.leaves))

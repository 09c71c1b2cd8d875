use Rattle.std.proofs.Common.{ℕ, List, get_or, length, arith, ◌∙◌, ap}
use Rattle.circuit_core.proofs.api.Sizes.{exponents-length, exponents-at}
use Rattle.circuit_core.proofs.circuit.Circuit.coordinates.Goals as goal

pub k-requires : goal.k-requires
k-requires c = let size = ap length c.shape.ensures ∙ exponents-length c.args.self.now.parts in omega (arith, size, c.requires)

pub returns-clause-value : goal.returns-clause-value
returns-clause-value c = c.k.ensures ∙ ap (λ (ks : List ℕ). get_or ks c.args.layer 0) c.shape.ensures ∙ exponents-at c.args.self.now.parts c.args.layer 0 c.requires

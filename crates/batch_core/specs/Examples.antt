-- Small batches whose tables and layers are worked out by hand
use Rattle.std.specs.Prelude.{ℕ, List, [], ◌∷◌}
use Rattle.field_ext.specs.Field.{of}
use Rattle.circuit_core.specs.declared.gate.Leaf.TheVariants.{Input}
use Rattle.circuit_core.specs.Parts.{Parts}
use Rattle.gkr_layers.specs.Examples.{adds, multiplies}
use Rattle.batch_core.specs.BatchClaim.{Instance}

-- the circuit of a product: the input layer holds 0, both inputs and 0
abbrev pub product_circuit : Parts
product_circuit = record {
  layers = (adds 0 0 ∷ adds 1 0 ∷ []) ∷ (adds 0 0 ∷ multiplies 1 2 ∷ []) ∷ [];
  input_width = 4;
  leaves = Input 0 ∷ Input 1 ∷ [];
  inputs = 2;
  outputs = 1;
}

-- an instance with two own inputs and one output
abbrev pub instance_on : ℕ → ℕ → ℕ → Instance
instance_on a b output = record { own = of a ∷ of b ∷ []; outputs = of output ∷ [] }

-- 3 * 4 is 12, and 5 * 6 is 30
abbrev pub two_products : List Instance
two_products = instance_on 3 4 12 ∷ instance_on 5 6 30 ∷ []

-- with a first input that is shared: 4 and 6 are multiplied by it
abbrev pub two_multiples : List Instance
two_multiples = record { own = of 4 ∷ []; outputs = of 12 ∷ [] }
    ∷ record { own = of 6 ∷ []; outputs = of 18 ∷ [] } ∷ []

-- three instances of one output
abbrev pub three_outputs : List Instance
three_outputs = instance_on 1 0 8 ∷ instance_on 2 0 9 ∷ instance_on 3 0 10 ∷ []

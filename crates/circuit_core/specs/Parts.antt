-- A layered circuit, and the values of its layers
use Rattle.std.specs.Prelude.{ℕ, ◌+◌, ◌-◌, ◌<◌, List, [], ◌∷◌, ◌++◌, length, map, drop, replicate, slice_index_or, nat_lt, if◌then◌else◌}
use Rattle.field_ext.specs.Field.{F, K, of, add_f, mul_f, embed_k}
use Rattle.circuit_core.specs.declared.gate.Kind.{Kind}
use Rattle.circuit_core.specs.declared.gate.Kind.TheVariants.{Add, Mul}
use Rattle.circuit_core.specs.declared.gate.CircuitGate.{CircuitGate}
use Rattle.circuit_core.specs.declared.gate.Leaf.{Leaf}
use Rattle.circuit_core.specs.declared.gate.Leaf.TheVariants.{Input, Const}

-- how high a circuit may be, and the greatest k of a layer with 2 ^ k positions
pub record Limits : Type 0 where
  pub height : ℕ
  pub exponent : ℕ

-- what a circuit is made of: the gates of each layer but the input, the output layer first
pub record Parts : Type 0 where
  pub layers : List (List CircuitGate)
  pub input_width : ℕ
  pub leaves : List Leaf
  pub inputs : ℕ
  pub outputs : ℕ

abbrev pub zero_f : F
zero_f = of 0

-- the gate of position 0 and of padding
abbrev pub zero_gate : CircuitGate
zero_gate = record { kind = Add; left = 0; right = 0 }

-- the number of layers above the input
abbrev pub height : Parts → ℕ
height p = length p.layers

-- how many positions a layer has
abbrev pub width_of : Parts → ℕ → ℕ
width_of p i = if nat_lt i (height p) then length (slice_index_or p.layers i []) else p.input_width

abbrev pub gate_of : Parts → ℕ → ℕ → CircuitGate
gate_of p i g = slice_index_or (slice_index_or p.layers i []) g zero_gate

-- a gate's operands are positions of a layer of this width
pub record IsOver (width : ℕ) (gate : CircuitGate) : Type 0 where
  pub left : gate.left < width
  pub right : gate.right < width

-- a sum or a product
abbrev pub combined : Kind → F → F → F
combined Add x y = add_f x y
combined Mul x y = mul_f x y

-- what a gate makes of the values of the layer below
abbrev pub gate_value : List F → CircuitGate → F
gate_value below gate = combined gate.kind (slice_index_or below gate.left zero_f)
    (slice_index_or below gate.right zero_f)

abbrev pub leaf_value : List F → Leaf → F
leaf_value inputs (Input j) = slice_index_or inputs j zero_f
leaf_value inputs (Const x) = x

-- the values of a layer's positions: 0, those given, and zeros
abbrev pub padded_values : ℕ → List F → List F
padded_values width values = zero_f ∷ (values ++ replicate (width - (1 + length values)) zero_f)

-- the values of the first of these layers, from those of the input layer
abbrev pub values_of : List (List CircuitGate) → List F → List F
values_of [] input = input
values_of (gates ∷ layers) input = map (gate_value (values_of layers input)) gates

-- the values of a layer, for given inputs
abbrev pub layer_values : Parts → List F → ℕ → List F
layer_values p inputs i =
    values_of (drop i p.layers) (padded_values p.input_width (map (leaf_value inputs) p.leaves))

-- the table of the input layer over the larger field: 0, the leaves' values and zeros
abbrev pub input_table : Parts → List F → List K
input_table p inputs = map embed_k (padded_values p.input_width (map (leaf_value inputs) p.leaves))

-- The circuit of a list of nodes
use Rattle.std.specs.Prelude.{◌≡◌, ℕ, zero, suc, ◌+◌, ◌-◌, ◌^◌, ◌≤◌, ◌==◌, List, [], ◌∷◌, ◌++◌, Option, Some, length, map, replicate, unwrap_or, slice_index_or, nat_lt, nat_le, if◌then◌else◌}
use Rattle.std.specs.Option.{option_or}
use Rattle.field_ext.specs.Field.{F}
use Rattle.circuit_core.specs.declared.gate.Kind.TheVariants.{Add}
use Rattle.circuit_core.specs.declared.gate.CircuitGate.{CircuitGate}
use Rattle.circuit_core.specs.declared.gate.Leaf as core
use Rattle.circuit_core.specs.declared.gate.Leaf.TheVariants as leaf
use Rattle.circuit_core.specs.Parts.{Limits, Parts, zero_gate, zero_f}
use Rattle.circuit_core.specs.Faults.{first_below, unless}
use Rattle.circuit_core.specs.Sound.{greatest}
use Rattle.node_core.specs.declared.node.Node.{Node}
use Rattle.node_core.specs.declared.node.Node.TheVariants.{Input, Constant, Operation}
use Rattle.node_core.specs.Nodes.{Nodes, node_at, values}
use Rattle.layer_compile.specs.declared.refused.LayerRefused.{LayerRefused}
use Rattle.layer_compile.specs.declared.refused.LayerRefused.TheVariants.{Deep, Wide, Memory}
use Rattle.layer_compile.specs.Levels.{level, height_of}
use Rattle.layer_compile.specs.Rows.{row, place}

-- the first power of two from 2 on that is n or more
abbrev pub size_for : ℕ → ℕ
size_for n = 2 ^ unwrap_or
    (first_below greatest.exponent (λ j. unless (nat_lt (2 ^ (j + 1)) n) (j + 1))) greatest.exponent

-- position 0, the gates, and padding
abbrev pub padded : List CircuitGate → List CircuitGate
padded gates = zero_gate
    ∷ (gates ++ replicate (size_for (1 + length gates) - (1 + length gates)) zero_gate)

-- an operation on the positions of its operands at height h
abbrev pub placed : Nodes → ℕ → Node → CircuitGate
placed n h (Input j) = zero_gate
placed n h (Constant x) = zero_gate
placed n h (Operation gate) =
    record { kind = gate.kind; left = place n h gate.left; right = place n h gate.right }

-- the gate of a node at height h + 1: its own if that is its level, or else its value is carried from height h
abbrev pub gate_above : Nodes → ℕ → ℕ → CircuitGate
gate_above n h k = if level n k == suc h then placed n h (node_at n k) else record {
  kind = Add;
  left = place n h k;
  right = 0;
}

-- the gates of position 0 and of these nodes of height h + 1
abbrev pub AreGatesAbove : Nodes → ℕ → List ℕ → List CircuitGate → Type 0
AreGatesAbove n h nodes gates = gates ≡ zero_gate ∷ map (gate_above n h) nodes

-- the layers of the heights from h down to 1
abbrev pub layers_from : Nodes → ℕ → List (List CircuitGate)
layers_from n zero = []
layers_from n (suc h) = padded (map (gate_above n h) (row n (suc h))) ∷ layers_from n h

abbrev pub leaf_of : Node → core.Leaf
leaf_of (Input j) = leaf.Input j
leaf_of (Constant x) = leaf.Const x
leaf_of (Operation gate) = leaf.Const zero_f

abbrev pub circuit_of : Nodes → Parts
circuit_of n = record {
  layers = layers_from n (height_of n);
  input_width = size_for (1 + length (row n 0));
  leaves = map (λ k. leaf_of (node_at n k)) (row n 0);
  inputs = n.inputs;
  outputs = length n.outputs;
}

-- limits that keep to those of every circuit
pub record AreKept (limits : Limits) : Type 0 where
  pub height : limits.height ≤ greatest.height
  pub exponent : limits.exponent ≤ greatest.exponent

abbrev pub too_wide : Limits → Nodes → ℕ → Option LayerRefused
too_wide limits n h = let width =
    1 + length (row n h) in unless (nat_le width (2 ^ limits.exponent)) (Wide h width)

-- why there is no circuit: too many heights, or else the first height with too many positions
abbrev pub refusal_of : Limits → Nodes → Option LayerRefused
refusal_of limits n = option_or (unless (nat_le (height_of n) limits.height) (Deep (height_of n)))
    (first_below (height_of n + 1) (too_wide limits n))

abbrev pub IsCauseOf : Limits → Nodes → LayerRefused → Type 0
IsCauseOf limits n Memory = Unit {0}
IsCauseOf limits n (Deep levels) = refusal_of limits n ≡ Some (Deep levels)
IsCauseOf limits n (Wide height width) = refusal_of limits n ≡ Some (Wide height width)

-- the values of the outputs
abbrev pub output_values : Nodes → List F → List F
output_values n inputs = map (λ output. slice_index_or (values n inputs) output zero_f) n.outputs

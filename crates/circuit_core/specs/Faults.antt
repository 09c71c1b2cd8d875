-- The first fault of a circuit
use Rattle.std.specs.Prelude.{◌≡◌, ℕ, zero, suc, ◌+◌, ◌^◌, ◌<◌, Bool, true, false, ◌&&◌, ◌||◌, ◌==◌, not, Option, Some, None, is_some, length, slice_index_or, nat_lt, nat_le, if◌then◌else◌}
use Rattle.std.specs.Option.{option_or}
use Rattle.circuit_core.specs.declared.gate.Kind.{Kind}
use Rattle.circuit_core.specs.declared.gate.Kind.TheVariants.{Add, Mul}
use Rattle.circuit_core.specs.declared.gate.CircuitGate.{CircuitGate}
use Rattle.circuit_core.specs.declared.gate.Leaf.{Leaf}
use Rattle.circuit_core.specs.declared.gate.Leaf.TheVariants.{Input, Const}
use Rattle.circuit_core.specs.declared.fault.BadCircuit.{BadCircuit}
use Rattle.circuit_core.specs.declared.fault.BadCircuit.TheVariants as bad
use Rattle.circuit_core.specs.declared.fault.CircuitRefused.{CircuitRefused}
use Rattle.circuit_core.specs.declared.fault.CircuitRefused.TheVariants.{Bad, Memory}
use Rattle.circuit_core.specs.Parts.{Limits, Parts, height, width_of, gate_of}

-- the first that is there among f 0 to f (n - 1)
unfoldable pub first_below : {X : Type 0} → ℕ → (ℕ → Option X) → Option X
first_below zero f = None
first_below (suc n) f = option_or (first_below n f) (f n)

-- a fault, where the test fails
abbrev pub unless : {X : Type 0} → Bool → X → Option X
unless b x = if b then None else Some x

abbrev pub depth_fault : Limits → Parts → Option BadCircuit
depth_fault limits p = unless (nat_le 1 (height p) && nat_le (height p) limits.height)
    (bad.Depth (height p))

-- the k from 1 on with n = 2 ^ k, where a layer may have n positions
abbrev pub exponent_of : Limits → ℕ → Option ℕ
exponent_of limits n = first_below limits.exponent (λ j. unless (not (n == 2 ^ (j + 1))) (j + 1))

-- the positions that a layer has to hold: 0, and after it the outputs at layer 0 and the leaves at the input layer
abbrev pub held_by : Parts → ℕ → ℕ
held_by p i = 1 + (if i == 0 then p.outputs else if i == height p then length p.leaves else 0)

abbrev pub width_fault : Limits → Parts → ℕ → Option BadCircuit
width_fault limits p i =
    unless (is_some (exponent_of limits (width_of p i)) && nat_le (held_by p i) (width_of p i))
    (bad.Width i (width_of p i))

abbrev pub is_add : Kind → Bool
is_add Add = true
is_add Mul = false

abbrev pub is_zero_gate : CircuitGate → Bool
is_zero_gate gate = is_add gate.kind && gate.left == 0 && gate.right == 0

-- gate 0, and a gate of layer 0 past the outputs
abbrev pub is_padding : Parts → ℕ → ℕ → Bool
is_padding p i g = g == 0 || (i == 0 && nat_lt p.outputs g)

abbrev pub zero_fault : Parts → ℕ → ℕ → Option BadCircuit
zero_fault p i g = unless (not (is_padding p i g) || is_zero_gate (gate_of p i g)) (bad.Zero i g)

-- an operand has to be a position of the layer below
abbrev pub fault_at_operand : Parts → ℕ → ℕ → ℕ → Option BadCircuit
fault_at_operand p i g operand =
    unless (nat_lt operand (width_of p (i + 1))) (bad.Operand i g operand (width_of p (i + 1)))

abbrev pub operand_fault : Parts → ℕ → ℕ → Option BadCircuit
operand_fault p i g = option_or (fault_at_operand p i g (gate_of p i g).left)
    (fault_at_operand p i g (gate_of p i g).right)

-- an input leaf has to name an input
abbrev pub is_there : ℕ → Leaf → Bool
is_there inputs (Input j) = nat_lt j inputs
is_there inputs (Const x) = true

abbrev pub IsLeafWithin : ℕ → Leaf → Type 0
IsLeafWithin inputs (Input j) = j < inputs
IsLeafWithin inputs (Const x) = Unit {0}

abbrev pub leaf_fault : Parts → ℕ → Option BadCircuit
leaf_fault p k = unless (is_there p.inputs (slice_index_or p.leaves k (Input 0))) (bad.Leaf (k + 1))

-- the first at a gate of a layer, and of any layer
abbrev pub first_in_layer : Parts → (ℕ → ℕ → Option BadCircuit) → ℕ → Option BadCircuit
first_in_layer p f i = first_below (width_of p i) (f i)

abbrev pub first_at_gate : Parts → (ℕ → ℕ → Option BadCircuit) → Option BadCircuit
first_at_gate p f = first_below (height p) (first_in_layer p f)

-- the first fault, in the order of the kinds, then of layers, then of gates
abbrev pub fault_of : Limits → Parts → Option BadCircuit
fault_of limits p =
    option_or (depth_fault limits p)
    (option_or (first_below (height p + 1) (width_fault limits p))
    (option_or (first_at_gate p (zero_fault p))
    (option_or (first_at_gate p (operand_fault p)) (first_below (length p.leaves) (leaf_fault p)))))

-- whether a refusal names the first fault
abbrev pub IsCauseOf : Limits → Parts → CircuitRefused → Type 0
IsCauseOf limits p (Bad fault) = fault_of limits p ≡ Some fault
IsCauseOf limits p Memory = Unit {0}

-- A layer of the circuit, and a table of the layer below, can be summed over
use Rattle.std.proofs.Common.{◌≡◌, ◌^◌, ◌<◌, ◌≤◌, ℕ, List, [], length, get_or, All, arith, ◌∙◌, ap, sym}
use Rattle.circuit_core.specs.declared.gate.CircuitGate.{CircuitGate}
use Rattle.circuit_core.specs.Parts.{IsOver, height}
use Rattle.circuit_core.specs.Sound.{SoundCircuit, exponent_at}
use Rattle.circuit_core.proofs.api.Sizes.{size_of, gates_size, gates_over}
use Rattle.layer_bench.proofs.proving.started.Goals as goal

some_layer : (c : SoundCircuit) (k : ℕ) → 0 < height c.parts → k ≡ exponent_at c.parts 1 → 1 ≤ k
some_layer c k u e = omega (arith, e, (size_of c 1 (omega arith)).1)

as_many : (c : SoundCircuit) (gates : List CircuitGate) (n : ℕ) → 0 < height c.parts → gates ≡ get_or c.parts.layers 0 [] → exponent_at c.parts 0 ≡ n → length gates ≡ 2 ^ n
as_many c gates n u g e = ap length g ∙ gates_size c 0 u ∙ ap (λ (m : ℕ). 2 ^ m) e

over : (c : SoundCircuit) (gates : List CircuitGate) (k : ℕ) → 0 < height c.parts → gates ≡ get_or c.parts.layers 0 [] → k ≡ exponent_at c.parts 1 → All (IsOver (2 ^ k)) gates
over c gates k u g e = coe 0 1 (j. All (IsOver (2 ^ sym e j)) (sym g j)) (gates_over c 0 u)

pub start_in-requires-clause-least : goal.start_in-requires-clause-least
start_in-requires-clause-least c = some_layer c.args.circuit.now c.args.values.now.k (omega (arith, c.if-height-eq0.false, c.height.ensures)) (sym c.k.ensures ∙ sym c.if-coordinates-k.false ∙ c.coordinates-2.ensures.value)

pub start_in-requires-clause-width : goal.start_in-requires-clause-width
start_in-requires-clause-width c = as_many c.args.circuit.now c.gates.result.now (length c.args.point.now) (omega (arith, c.if-height-eq0.false, c.height.ensures)) c.gates.ensures.value (omega (arith, c.if-coordinates-point.false, c.coordinates.ensures.value))

pub start_in-requires-clause-operands : goal.start_in-requires-clause-operands
start_in-requires-clause-operands c = over c.args.circuit.now c.gates.result.now c.args.values.now.k (omega (arith, c.if-height-eq0.false, c.height.ensures)) c.gates.ensures.value (sym c.k.ensures ∙ sym c.if-coordinates-k.false ∙ c.coordinates-2.ensures.value)

-- What the layout says of a case: the sizes of its program's circuit, or why there are none.
use Rattle.std.specs.Prelude.{◌≡◌, ◌≢◌, ℕ, ◌+◌, List, length, map, sum_by, slice_index_or, []}
use Rattle.std.specs.List.{range_with_len}
use Rattle.circuit_core.specs.declared.gate.Kind.TheVariants.{Add, Mul}
use Rattle.circuit_core.specs.declared.gate.Kind.{Kind}
use Rattle.circuit_core.specs.declared.gate.CircuitGate.{CircuitGate}
use Rattle.circuit_core.specs.Parts.{Parts, height, width_of}
use Rattle.circuit_core.specs.Sound.{exponent_at, exponents}
use Rattle.gkr_layers.specs.Layers.{layers_of, challenges_of}
use Rattle.gkr_layers.specs.Soundness.{sum_of_bounds}
use Rattle.proof_wire.specs.declared.form.ProofForm.TheVariants.{Line}
use Rattle.proof_wire.specs.Spelling.{length_of}
use Rattle.arr_compile.specs.Circuits.{IsCompiled, IsCircuitRefusal}
use Rattle.case_text.specs.Content.{Content}
use Rattle.case_text.specs.Sizes.{Sizes}
use Rattle.case_text.specs.declared.reply.sizes.LayerSize.{LayerSize}
use Rattle.case_prove.specs.declared.refused.Refused.{Refused}
use Rattle.case_prove.specs.declared.refused.Refused.TheVariants.{Program, Input, Output, Proof, Memory}

-- 1 for a product, and 0 for a sum
abbrev pub product_weight : Kind → ℕ
product_weight Add = 0
product_weight Mul = 1

-- how many of these gates multiply
abbrev pub products_of : List CircuitGate → ℕ
products_of gates = sum_by (λ gate. product_weight gate.kind) gates

-- how many gates of a layer multiply, of which the input layer has none
abbrev pub products : Parts → ℕ → ℕ
products p i = products_of (slice_index_or p.layers i [])

abbrev pub layer_size : Parts → ℕ → LayerSize
layer_size p i = record { positions = width_of p i; products = products p i }

abbrev pub sizes_of : Parts → Sizes
sizes_of p = record {
  layers = map (layer_size p) (range_with_len 0 (height p + 1));
  proof = length_of Line (exponents p);
  challenges = challenges_of p;
  bound = sum_of_bounds Line (exponent_at p 0) (layers_of p);
}

-- The case's program has a circuit of these sizes, and it has as many inputs as the case.
pub record IsLaidOut (c : Content) (sizes : Sizes) : Type 0 where
  pub parts : Parts
  pub compiled : IsCompiled c.lang c.program parts
  pub counted : length c.inputs ≡ parts.inputs
  pub sizes_are : sizes ≡ sizes_of parts

-- The case's program has a circuit, and another number of inputs than the case.
pub record IsCircuitMiscounted (c : Content) (have need : ℕ) : Type 0 where
  pub parts : Parts
  pub compiled : IsCompiled c.lang c.program parts
  pub case_has : have ≡ length c.inputs
  pub program_needs : need ≡ parts.inputs
  pub differ : have ≢ need

-- A call refuses a case as the definitions do, or memory ran out.
abbrev pub RefusesCircuit : Content → Refused → Type 0
RefusesCircuit c (Program bad) = IsCircuitRefusal c.lang c.program bad
RefusesCircuit c (Input have need) = IsCircuitMiscounted c have need
RefusesCircuit c (Output have need) = ⊥
RefusesCircuit c (Proof bad) = ⊥
RefusesCircuit c Memory = Unit {0}

-- A layer of a circuit, and a table of the layer below, can be summed over
use Rattle.std.proofs.Common.{◌≡◌, ℕ, ◌+◌, ◌^◌, ◌<◌, ◌≤◌, List, [], length, get_or, All, arith, ◌∙◌, ap, sym}
use Rattle.field_ext.specs.Field.{K}
use Rattle.mle_table.specs.Shape.{TableValues}
use Rattle.circuit_core.specs.declared.gate.CircuitGate.{CircuitGate}
use Rattle.circuit_core.specs.Parts.{IsOver, height}
use Rattle.circuit_core.specs.Sound.{SoundCircuit, exponent_at}
use Rattle.circuit_core.proofs.api.Sizes.{size_of, gates_size, gates_over}
use Rattle.circuit_eval.specs.Tables.{FitLayers}
use Rattle.circuit_eval.proofs.api.LayerTables.{same_exponent}

module _ (c : SoundCircuit) (i : ℕ) (u : i < height c.parts) where
  pub table_exponent : (values : List (List K)) → FitLayers c.parts values → (table : TableValues) → table.items ≡ get_or values (i + 1) [] → table.k ≡ exponent_at c.parts (i + 1)
  table_exponent values fit table e =
      same_exponent table.k (exponent_at c.parts (i + 1)) (sym table.whole ∙ ap length e ∙ fit.each (i + 1) (omega (arith, u)) ∙ (size_of c (i + 1) (omega (arith, u))).0)

  pub few_coordinates : (n : ℕ) → n ≡ exponent_at c.parts i → n ≤ 20
  few_coordinates n h = let s = (size_of c i (omega (arith, u))).2 in omega (arith, s, h)

  pub as_many : (gates : List CircuitGate) (n : ℕ) → gates ≡ get_or c.parts.layers i [] → n ≡ exponent_at c.parts i → length gates ≡ 2 ^ n
  as_many gates n g h = ap length g ∙ gates_size c i u ∙ ap (λ (m : ℕ). 2 ^ m) (sym h)

  module _ (k : ℕ) (e : k ≡ exponent_at c.parts (i + 1)) where
    pub least : 1 ≤ k
    least = let s = (size_of c (i + 1) (omega (arith, u))).1 in omega (arith, s, e)

    pub most : k ≤ 20
    most = let s = (size_of c (i + 1) (omega (arith, u))).2 in omega (arith, s, e)

    pub operands_over : (gates : List CircuitGate) → gates ≡ get_or c.parts.layers i [] → All (IsOver (2 ^ k)) gates
    operands_over gates g = coe 0 1 (j. All (IsOver (2 ^ sym e j)) (sym g j)) (gates_over c i u)

-- The layers' tables and gates have the circuit's sizes
use Rattle.std.proofs.Common.{◌≡◌, ℕ, ◌+◌, ◌^◌, ◌<◌, ◌≤◌, List, [], ◌∷◌, length, get_or, All, sym, ◌∙◌, ap, subst, arith}
use Rattle.field_ext.specs.Field.{F, K}
use Rattle.circuit_core.specs.declared.gate.CircuitGate.{CircuitGate}
use Rattle.circuit_core.specs.Parts.{Parts, height, IsOver}
use Rattle.circuit_core.specs.Sound.{SoundCircuit, exponent_at}
use Rattle.circuit_eval.specs.Tables.{AreTables}
use Rattle.circuit_eval.proofs.api.LayerTables.{same_exponent, length-table}
use Rattle.mle_table.specs.Shape.{TableValues}
use Rattle.gkr_layers.specs.Layers.{layers_below, lower_exponents}
use Rattle.circuit_core.proofs.api.Sizes.{size_of, gates_size, gates_over}
use Rattle.gkr_layers.proofs.api.Circuits.{below_more}
use Rattle.round_tables.specs.Phase.{IsLayer}
use Rattle.proof_wire.specs.declared.messages.LayerMessages.{LayerMessages}
use Rattle.proof_wire.specs.Lists.{HasShape, HaveShape}
use Rattle.gkr_layers.specs.Places as places
use Rattle.gkr_layers.specs.Places.{Place}
use Rattle.proof_wire.specs.declared.form.ProofForm.{ProofForm}
use Rattle.std.proofs.Math.Nat.{pow-le-pow_right}

module _ (c : SoundCircuit) where
  -- the table of a layer has the layer's coordinates
  pub table_exponent : (inputs : List F) (tables : List (List K)) (i : ℕ) (table : TableValues) → AreTables c.parts inputs tables → i ≤ height c.parts → table.items ≡ get_or tables i [] → table.k ≡ exponent_at c.parts i
  table_exponent inputs tables i table h u e =
      same_exponent table.k (exponent_at c.parts i) (sym table.whole ∙ ap length (e ∙ h.each i u) ∙ length-table c inputs i u)

  -- the gates of a layer and the table of the layer below can be summed over
  pub is_layer : (i : ℕ) (table : TableValues) (gates : List CircuitGate) (place : Place K) → i < height c.parts → table.k ≡ exponent_at c.parts (i + 1) → gates ≡ get_or c.parts.layers i [] → places.IsOver (exponent_at c.parts i) place →
      IsLayer K table.k gates table.items place
  is_layer i table gates place u e g z =
      let size = size_of c (i + 1) (omega arith) in
      record {
        least = omega (arith, size.1, e);
        most = omega (arith, size.2, e);
        size = table.whole;
        exponent = exponent_at c.parts i;
        coordinates = z;
        width = ap length g ∙ gates_size c i u;
        operands = coe 0 1 (j. All (IsOver (2 ^ sym e j)) (sym g j)) (gates_over c i u);
      }

  -- which are not too many for two tables of weights
  pub few_gates : (i : ℕ) (gates : List CircuitGate) → i < height c.parts → gates ≡ get_or c.parts.layers i [] → length gates ≤ 1048576
  few_gates i gates u g =
      let size = size_of c i (omega arith) in
      let most : 2 ^ exponent_at c.parts i ≤ 1048576 = pow-le-pow_right {n = 2} (omega arith) size.2 in
      omega (arith, ap length g, gates_size c i u, most)

-- messages of one more layer's shape
pub shape_more : (form : ProofForm) (p : Parts) (i : ℕ) (m : LayerMessages) (ms : List LayerMessages) → i < height p → HasShape form (exponent_at p (i + 1)) m → HaveShape form (lower_exponents (layers_below p (i + 1))) ms → HaveShape form (lower_exponents (layers_below p i)) (m ∷ ms)
shape_more form p i m ms u h rest = subst (λ layers. HaveShape form (lower_exponents layers) (m ∷ ms)) (sym (below_more p i u)) (h, rest)

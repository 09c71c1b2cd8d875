-- What holds of the working tables
use Rattle.std.specs.Prelude.{◌≡◌, ℕ, ◌-◌, ◌^◌, ◌<◌, ◌≤◌, List, ◌++◌, length, All}
use Rattle.field_ext.specs.Ring.{Ops}
use Rattle.field_ext.specs.Sums.{sum_cube}
use Rattle.field_ext.specs.Multilinear.{extension_at}
use Rattle.circuit_core.specs.declared.gate.CircuitGate.{CircuitGate}
use Rattle.gkr_layers.specs.Places as places
use Rattle.gkr_layers.specs.Places.{Place, weighted_summand_at}
use Rattle.circuit_core.specs.Parts.{IsOver}
use Rattle.table_parts.specs.Tables.{StandFor}
use Rattle.round_tables.specs.LayerSum.{left_in_phase, after_phase}

-- a layer of gates over 2 ^ k values, with a place of as many coordinates as its positions have
pub record IsLayer (A : Type 0) (k : ℕ) (gates : List CircuitGate) (values : List A)
    (place : Place A) : Type 0 where
  pub least : 1 ≤ k
  pub most : k ≤ 20
  pub size : length values ≡ 2 ^ k
  pub exponent : ℕ
  pub coordinates : places.IsOver exponent place
  pub width : length gates ≡ 2 ^ exponent
  pub operands : All (IsOver (2 ^ k)) gates

-- the tables stand for the layer's sum with these challenges bound
pub record IsPhase (A : Type 0) (o : Ops A) (k : ℕ) (gates : List CircuitGate) (values : List A)
    (place : Place A) (bound table scales shifts : List A) : Type 0 where
  -- in the first phase the left operand's value is kept
  pub value : length bound < k → (w : List A) → length w ≡ k - length bound
      → extension_at o o (λ x. x) table w ≡ extension_at o o (λ x. x) values (bound ++ w)
  -- the rest of the sum is the product of two extensions, and a third
  pub stand : StandFor o (left_in_phase k (length bound))
      (λ w. sum_cube o (after_phase k (length bound))
      (λ c. weighted_summand_at o o (λ x. x) k gates values place (bound ++ (w ++ c)))) table scales
      shifts

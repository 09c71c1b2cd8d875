-- The values of a circuit's layers as tables over K
use Rattle.std.specs.Prelude.{◌≡◌, ℕ, ◌+◌, ◌≤◌, List, [], map, length, slice_index_or}
use Rattle.field_ext.specs.Field.{F, K, embed_k}
use Rattle.circuit_core.specs.Parts.{Parts, height, width_of, layer_values}

-- the values of a layer, as elements of K
abbrev pub table_of : Parts → List F → ℕ → List K
table_of p inputs i = map embed_k (layer_values p inputs i)

-- a table for each layer, that of the outputs first
pub record AreTables (p : Parts) (inputs : List F) (tables : List (List K)) : Type 0 where
  pub count : length tables ≡ height p + 1
  pub each : (i : ℕ) → i ≤ height p → slice_index_or tables i [] ≡ table_of p inputs i

-- a table for each layer, of as many values as the layer has positions
pub record FitLayers (p : Parts) (tables : List (List K)) : Type 0 where
  pub count : length tables ≡ height p + 1
  pub each : (i : ℕ) → i ≤ height p → length (slice_index_or tables i []) ≡ width_of p i

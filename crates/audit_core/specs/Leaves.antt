-- The values of leaves, in the table of the input layer and by inputs
use Rattle.std.specs.Prelude.{◌≡◌, ℕ, ◌+◌, ◌<◌, List, length, slice_index_or}
use Rattle.field_ext.specs.Field.{F, K, zero_k, embed_k}
use Rattle.circuit_core.specs.declared.gate.Leaf.{Leaf}
use Rattle.circuit_core.specs.Parts.{leaf_value}

-- the table has the values that the leaves have with these inputs, from position 1 on
abbrev pub AreLeafValues : List F → List Leaf → List K → Type 0
AreLeafValues wanted leaves items =
    (i : ℕ) (d : Leaf) → i < length leaves
    → slice_index_or items (i + 1) zero_k ≡ embed_k (leaf_value wanted (slice_index_or leaves i d))

-- the inputs that were read give the first of these leaves the same values
abbrev pub GiveValues : List F → List F → List Leaf → ℕ → Type 0
GiveValues read wanted leaves count =
    (j : ℕ) (d : Leaf) → j < count
    → leaf_value read (slice_index_or leaves j d) ≡ leaf_value wanted (slice_index_or leaves j d)

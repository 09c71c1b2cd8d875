-- Which node is at which position of which height
use Rattle.std.specs.Prelude.{◌≡◌, ℕ, zero, suc, ◌+◌, ◌<◌, ◌≤◌, Bool, true, ◌&&◌, ◌==◌, List, length, nat_lt, nat_le, slice_index, if◌then◌else◌}
use Rattle.std.specs.List.{filter, range_with_len}
use Rattle.node_core.specs.Nodes.{Nodes}
use Rattle.layer_compile.specs.Levels.{level, height_of, is_used_above}

-- a leaf is at height 0; a node is there from its level on, below the heights where it is used
abbrev pub is_at : Nodes → ℕ → ℕ → Bool
is_at n zero k = level n k == 0
is_at n (suc h) k = nat_le (level n k) (suc h) && is_used_above n (suc h) k

-- the nodes at positions 1, 2, .. of a height: those that are there, by number, and the outputs at the last
abbrev pub row : Nodes → ℕ → List ℕ
row n h = if nat_lt h (height_of n) then filter (is_at n h) (range_with_len 0 (length n.nodes))
    else n.outputs

-- the position of a node that is at a height
abbrev pub place : Nodes → ℕ → ℕ → ℕ
place n h k = 1 + length (filter (is_at n h) (range_with_len 0 k))

-- the places of the nodes that are at a height, by node; what is said of the others doesn't count
pub record ArePlaces (n : Nodes) (h : ℕ) (places : List ℕ) : Type 0 where
  pub each : (k : ℕ) → k < length n.nodes → is_at n h k ≡ true → slice_index places k ≡ place n h k

-- the row above height h as far as the nodes below number `from`, of which so many are at height h
pub record IsMerged (n : Nodes) (h from taken : ℕ) (above : List ℕ) : Type 0 where
  pub counted : taken ≡ length (filter (is_at n h) (range_with_len 0 from))
  pub kept : above ≡ filter (is_at n (suc h)) (range_with_len 0 from)

-- a node of the row above height h
pub record IsAbove (n : Nodes) (h k : ℕ) : Type 0 where
  pub within : k < length n.nodes
  pub low : level n k ≤ suc h
  pub used : is_used_above n h k ≡ true

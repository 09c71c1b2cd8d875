-- The weights of a layer's positions at the place of its claim
use Rattle.std.specs.Prelude.{◌≡◌, ℕ, ◌+◌, ◌/◌, ◌%◌, ◌<◌, List, take, drop, length, vec_len, slice_index_or}
use Rattle.field_ext.specs.Ring.{Ops}
use Rattle.field_ext.specs.Field.{K, k_ops, zero_k, mul_k}
use Rattle.field_ext.specs.Multilinear.{eq_poly}
use Rattle.mle_table.specs.Equality.{IsEqTable}
use Rattle.gkr_layers.specs.Places.{Place, weighted}
use Rattle.round_tables.specs.declared.kept_point.KeptPoint.{KeptPoint}

-- at one point the equality polynomial's value, at two the weighted sum of its values
abbrev pub position_weight : {A : Type 0} → Ops A → Place A → ℕ → A
position_weight o place g = weighted o place (λ z. eq_poly o z g)

-- so many positions share a value of the high table
abbrev pub row_positions : ℕ
row_positions = 1024

-- a point's tables have values for so many positions, in rows
pub record HasRows (positions : ℕ) (p : KeptPoint) : Type 0 where
  pub low : vec_len p.low ≡ row_positions
  pub high : vec_len p.high ≡ positions / row_positions + 1

-- the tables are those of the equality polynomial at the point: one for the first ten coordinates and one for the others
pub record HasTables (p : KeptPoint) : Type 0 where
  pub low : IsEqTable k_ops (take 10 p.point.items) p.low.items
  pub high : IsEqTable k_ops (drop 10 p.point.items) p.high.items

-- the product of a value of each, by the bits of g
abbrev pub product_at : KeptPoint → ℕ → K
product_at p g = mul_k (slice_index_or p.low.items (g % row_positions) zero_k)
    (slice_index_or p.high.items (g / row_positions) zero_k)

-- each value of the new table is that of the old one by a weight
abbrev pub IsScaled : K → List K → List K → Type 0
IsScaled weight old new = (i : ℕ) → i < length old
    → slice_index_or new i zero_k ≡ mul_k weight (slice_index_or old i zero_k)

-- the second has the point and the values of the first
pub record IsSamePoint (p q : KeptPoint) : Type 0 where
  pub point : q.point.items ≡ p.point.items
  pub low : q.low.items ≡ p.low.items
  pub high : q.high.items ≡ p.high.items

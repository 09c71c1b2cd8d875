-- The equality polynomial's values at a point, in two tables
use Rattle.std.specs.Prelude.{◌≡◌, List, length, take, drop}
use Rattle.field_ext.specs.Field.{K, k_ops}
use Rattle.mle_table.specs.Equality.{IsEqTable}

-- two tables of 1,024 values, as contracts see them
pub record TwoTables : Type 0 where
  pub low : List K
  pub high : List K
  pub low_size : length low ≡ 1024
  pub high_size : length high ≡ 1024

-- one table for the first ten coordinates and one for the others
pub record IsSplitAt (point : List K) (tables : TwoTables) : Type 0 where
  pub low : IsEqTable k_ops (take 10 point) tables.low
  pub high : IsEqTable k_ops (drop 10 point) tables.high

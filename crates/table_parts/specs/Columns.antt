-- A table that isn't kept where it is all zeros
use Rattle.std.specs.Prelude.{ℕ, Bool, List, replicate, if◌then◌else◌}
use Rattle.field_ext.specs.Field.{K, zero_k}

-- the values of the table, and for how many there is capacity
pub record ColumnValues : Type 0 where
  pub items : List K
  pub capacity : ℕ

-- n zeros
abbrev pub zeros : ℕ → List K
zeros n = replicate n zero_k

-- values that are kept, or n zeros
abbrev pub kept_or_zeros : Bool → List K → ℕ → List K
kept_or_zeros kept values n = if kept then values else zeros n

-- The weights of a column. Only whether the three sums are odd counts, so there are eight of them.
use Rattle.std.specs.Prelude.{◌≡◌, ℕ, ◌+◌, ◌*◌, ◌/◌, ◌%◌, List, slice_index_or}
use Rattle.field_ext.specs.Field.{K, k_ops, zero_k, mul_k}
use Rattle.run_wiring.specs.declared.carries.Carries.{Carries}
use Rattle.run_wiring.specs.declared.column.Column.{Column}
use Rattle.run_wiring.specs.Entries.{factor, weight}

-- the weight at a place, whose binary digits say which of the sums are odd: that of the position, of the left, of the right operand
abbrev pub weight_at : Column → ℕ → K
weight_at column i =
    mul_k (factor k_ops column.z (i / 4))
    (mul_k (factor k_ops column.b (i / 2)) (factor k_ops column.c i))

-- where the weight of these carries and this digit is
abbrev pub weight_place : Column → Carries → ℕ → ℕ
weight_place column from digit =
    (column.position + from.position + digit) % 2 * 4
    + (column.left + from.left + digit * column.lstep) % 2 * 2
    + (column.right + from.right + digit * column.rstep) % 2

-- each weight of the column is at its place
abbrev pub AreWeights : Column → List K → Type 0
AreWeights column weights =
    (from : Carries) (digit : ℕ) →
    slice_index_or weights (weight_place column from digit) zero_k ≡ weight column from digit

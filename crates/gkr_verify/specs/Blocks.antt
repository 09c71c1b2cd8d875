-- Weights at two points, in blocks of 1,024 positions
use Rattle.std.specs.Prelude.{◌≡◌, ℕ, List, slice_index_or}
use Rattle.field_ext.specs.Field.{K, zero_k, add_k, mul_k}
use Rattle.mle_table.specs.SplitEquality.{IsSplitAt}
use Rattle.gkr_verify.specs.declared.blocks.BothEquality.{BothEquality}
use Rattle.gkr_verify.specs.declared.blocks.Shares.{Shares}

-- these are the tables at the first and at the second point, and the second's weight
pub record AreAt (b c : List K) (a : K) (both : BothEquality) : Type 0 where
  pub first : IsSplitAt b both.first
  pub second : IsSplitAt c both.second
  pub weight : both.weight ≡ a

-- shares of a block with the factors of the block at both points, and with the weight of the second
abbrev pub with_factors : BothEquality → ℕ → Shares → K
with_factors both block shares =
    add_k (mul_k (slice_index_or both.first.high block zero_k) shares.first)
    (mul_k both.weight (mul_k (slice_index_or both.second.high block zero_k) shares.second))

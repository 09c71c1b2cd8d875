-- Parts that are worked one after another
use Rattle.std.proofs.Common.{◌≡◌, ℕ, ◌<◌, ◌≤◌, List, length, Some, slice_get}

-- the first i were worked, and the others are as they were
pub record AreWorked {V : Type 0} (f : ℕ → V → V) (old : List V) (i : ℕ) (now : List V) : Type 0 where
  pub len : length now ≡ length old
  pub worked : (j : ℕ) (x : V) → j < i → slice_get old j ≡ Some x → slice_get now j ≡ Some (f j x)
  pub left : (j : ℕ) → i ≤ j → slice_get now j ≡ slice_get old j

-- Tables of which a range of places is made anew
use Rattle.std.specs.Prelude.{◌≡◌, ℕ, ◌+◌, ◌<◌, ◌≤◌, List, slice_index_or}
use Rattle.field_ext.specs.Field.{K, zero_k}

-- `count` places from `from` on have the values of f, and the others are as they were
pub record IsMade (from count : ℕ) (old new : List K) (f : ℕ → K) : Type 0 where
  pub before : (x : ℕ) → x < from → slice_index_or new x zero_k ≡ slice_index_or old x zero_k
  pub within : (x : ℕ) → from ≤ x → x < from + count → slice_index_or new x zero_k ≡ f x
  pub after : (x : ℕ) → from + count ≤ x
      → slice_index_or new x zero_k ≡ slice_index_or old x zero_k

-- `count` places from `from` on have 0
abbrev pub AreZeros : List K → ℕ → ℕ → Type 0
AreZeros t from count =
    (x : ℕ) → from ≤ x → x < from + count → slice_index_or t x zero_k ≡ zero_k

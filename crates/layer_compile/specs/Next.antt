-- The next number that passes a test, and chains of the nodes of each level
use Rattle.std.specs.Prelude.{◌≡◌, ℕ, ◌+◌, ◌<◌, ◌≤◌, Bool, true, false, ◌==◌, List, length, slice_index}

-- the first number from `from` on that passes and is below `many`, or `many` where none does
pub record IsNext (passes : ℕ → Bool) (many from next : ℕ) : Type 0 where
  pub past : from ≤ next
  pub within : next ≤ many
  pub here : next < many → passes next ≡ true
  pub none : (k : ℕ) → from ≤ k → k < next → passes k ≡ false

abbrev pub has_level : List ℕ → ℕ → ℕ → Bool
has_level levels h k = slice_index levels k == h

-- the first node of each level, and after each node the next of its level
pub record AreChains (levels first next : List ℕ) : Type 0 where
  pub firsts : (h : ℕ) → h ≤ length levels
      → IsNext (has_level levels h) (length levels) 0 (slice_index first h)
  pub nexts : (k : ℕ) → k < length levels
      → IsNext (has_level levels (slice_index levels k)) (length levels) (k + 1)
      (slice_index next k)

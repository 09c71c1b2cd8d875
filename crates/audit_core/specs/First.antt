-- The first number of which something holds
use Rattle.std.specs.Prelude.{◌≡◌, ℕ, ◌<◌, Option, Some, None}

-- n is the first of the numbers below `count` of which P holds
pub record IsFirst (P : ℕ → Type 0) (count n : ℕ) : Type 0 where
  pub below : n < count
  pub holds : P n
  pub none_before : (m : ℕ) → m < n → ¬ P m

-- what is named belongs to the first number below `count` of which P holds, and nothing is named exactly where there is none
abbrev pub NamesFirst : {A : Type 0} → (ℕ → Type 0) → ℕ → (ℕ → A) → Option A → Type 0
NamesFirst P count name None = (n : ℕ) → n < count → ¬ P n
NamesFirst P count name (Some named) = (n : ℕ) × IsFirst P count n × (named ≡ name n)

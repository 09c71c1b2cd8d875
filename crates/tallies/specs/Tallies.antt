-- Totals over what several seats know, and how often a number is in their lists.
use Rattle.std.specs.Prelude.{◌≡◌, ℕ, ◌+◌, ◌≤◌, ◌==◌, cond, ltb, List, [], ◌∷◌}

-- f of each, added up
abbrev pub total : {V : Type 0} → (V → ℕ) → List V → ℕ
total f [] = 0
total f (v ∷ vs) = f v + total f vs

-- how often x is in the list
abbrev pub times : ℕ → List ℕ → ℕ
times x [] = 0
times x (y ∷ ys) = cond (x == y) 1 0 + times x ys

-- 1 where x is below n, else 0
abbrev pub once_below : ℕ → ℕ → ℕ
once_below x n = cond (ltb x n) 1 0

-- each number below n once, and no other
abbrev pub HasEachOnce : ℕ → List ℕ → Type 0
HasEachOnce n xs = (x : ℕ) → times x xs ≡ once_below x n

-- no number is in both lists, nor twice in one
abbrev pub Apart : List ℕ → List ℕ → Type 0
Apart a b = (x : ℕ) → times x a + times x b ≤ 1

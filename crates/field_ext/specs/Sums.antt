-- Finite sums in a ring
use Rattle.std.specs.Prelude.{ℕ, zero, suc, List, [], ◌∷◌}
use Rattle.field_ext.specs.Ring.{Ops}

module _ {A : Type 0} (o : Ops A) where
  infixl 65 ◌⊕◌
  open o use {add as ◌⊕◌}

  -- the sum of f 0 to f (n - 1)
  abbrev pub sum_below : ℕ → (ℕ → A) → A
  sum_below zero f = o.zero
  sum_below (suc n) f = sum_below n f ⊕ f n

  -- the sum of f over all Boolean points, the lists of n coordinates that are 0 or 1
  abbrev pub sum_cube : ℕ → (List A → A) → A
  sum_cube zero f = f []
  sum_cube (suc n) f = sum_cube n (λ w. f (o.zero ∷ w)) ⊕ sum_cube n (λ w. f (o.one ∷ w))

-- What makes the wiring polynomials of copies out of those of one copy, at coordinates in any ring
use Rattle.std.specs.Prelude.{◌^◌, List, [], ◌∷◌, length}
use Rattle.field_ext.specs.Ring.{Ops}
use Rattle.field_ext.specs.Sums.{sum_below}
use Rattle.field_ext.specs.Multilinear.{eq_poly}

module _ {A : Type 0} (o : Ops A) where
  infixl 65 ◌⊕◌
  infixl 70 ◌⊗◌
  infix 75 ⊖◌
  open o use {add as ◌⊕◌, mul as ◌⊗◌, neg as ⊖◌}

  -- the multilinear extension of "all three are one copy"
  abbrev pub same_copy : List A → List A → List A → A
  same_copy y x w =
      sum_below o (2 ^ length y) (λ e. eq_poly o y e ⊗ (eq_poly o x e ⊗ eq_poly o w e))

  -- at one coordinate of each: all three are 1, or all three are 0
  abbrev pub same_bit : A → A → A → A
  same_bit y x w = y ⊗ (x ⊗ w) ⊕ (o.one ⊕ ⊖ y) ⊗ ((o.one ⊕ ⊖ x) ⊗ (o.one ⊕ ⊖ w))

  -- the product of that over the coordinates of three points
  abbrev pub same_bits : List A → List A → List A → A
  same_bits [] xs ws = o.one
  same_bits (y ∷ ys) [] ws = o.one
  same_bits (y ∷ ys) (x ∷ xs) [] = o.one
  same_bits (y ∷ ys) (x ∷ xs) (w ∷ ws) = same_bit y x w ⊗ same_bits ys xs ws

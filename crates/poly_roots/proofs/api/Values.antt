-- The value at a point carries sums to sums and products to products
use Rattle.std.proofs.Common.{◌≡◌, List, [], ◌∷◌, map, refl, sym, ◌∙◌, ap, ap₂}
use Rattle.field_ext.specs.Ring.{Ops, Laws}
use Rattle.field_ext.specs.Polynomial.{value_at, sum_of, product_of}
use Rattle.field_ext.proofs.api.Solve.{var, ◌⊕◌, ◌⊗◌, solve}
use Rattle.field_ext.proofs.api.Rings.{zero_add, mul_zero, zero_mul}

module _ {A : Type 0} (o : Ops A) (l : Laws A o) where
  pub value-sum : (p q : List A) (e : A) → value_at o (sum_of o p q) e ≡ o.add (value_at o p e) (value_at o q e)
  value-sum [] q e = sym (zero_add o l (value_at o q e))
  value-sum (c ∷ cs) [] e = sym (l.add_zero (value_at o (c ∷ cs) e))
  value-sum (c ∷ cs) (d ∷ ds) e =
      ap (λ (t : A). o.add (o.add c d) (o.mul e t)) (value-sum cs ds e)
      ∙ solve o l (c ∷ d ∷ e ∷ value_at o cs e ∷ value_at o ds e ∷ [])
      (var 0 ⊕ var 1 ⊕ var 2 ⊗ (var 3 ⊕ var 4)) (var 0 ⊕ var 2 ⊗ var 3 ⊕ (var 1 ⊕ var 2 ⊗ var 4)) refl

  value-scale : (c : A) (p : List A) (e : A) → value_at o (map (o.mul c) p) e ≡ o.mul c (value_at o p e)
  value-scale c [] e = sym (mul_zero o l c)
  value-scale c (d ∷ ds) e =
      ap (λ (t : A). o.add (o.mul c d) (o.mul e t)) (value-scale c ds e)
      ∙ solve o l (c ∷ d ∷ e ∷ value_at o ds e ∷ []) (var 0 ⊗ var 1 ⊕ var 2 ⊗ (var 0 ⊗ var 3)) (var 0 ⊗ (var 1 ⊕ var 2 ⊗ var 3)) refl

  pub value-product : (p q : List A) (e : A) → value_at o (product_of o p q) e ≡ o.mul (value_at o p e) (value_at o q e)
  value-product [] q e = sym (zero_mul o l (value_at o q e))
  value-product (c ∷ cs) [] e = sym (mul_zero o l (value_at o (c ∷ cs) e))
  value-product (c ∷ cs) (d ∷ ds) e =
      ap (λ (t : A). o.add (o.mul c d) (o.mul e t)) (value-sum (map (o.mul c) ds) (product_of o cs (d ∷ ds)) e ∙ ap₂ o.add (value-scale c ds e) (value-product cs (d ∷ ds) e))
      ∙ solve o l (c ∷ d ∷ e ∷ value_at o cs e ∷ value_at o ds e ∷ [])
      (var 0 ⊗ var 1 ⊕ var 2 ⊗ (var 0 ⊗ var 4 ⊕ var 3 ⊗ (var 1 ⊕ var 2 ⊗ var 4)))
      ((var 0 ⊕ var 2 ⊗ var 3) ⊗ (var 1 ⊕ var 2 ⊗ var 4)) refl

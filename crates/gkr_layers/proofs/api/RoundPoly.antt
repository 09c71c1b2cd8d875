-- The value of a true round polynomial at e is the sum with e in X's place
use Rattle.std.proofs.Common.{◌≡◌, List, [], ◌∷◌, ◌++◌, map, refl, sym, ◌∙◌, ap, ap₂}
use Rattle.field_ext.specs.Ring.{Ops, Laws}
use Rattle.field_ext.specs.Polynomial.{value_at, polynomial_ops, constant}
use Rattle.field_ext.proofs.api.Rings.{mul_zero, neg-add, neg-zero, mul_neg}
use Rattle.field_ext.proofs.api.Solve.{var, nil, unit, ◌⊕◌, ◌⊗◌, solve}
use Rattle.poly_roots.proofs.api.Values.{value-sum, value-product}
use Rattle.wiring_poly.proofs.api.Hom.{IsHom}

module _ {A : Type 0} (o : Ops A) (l : Laws A o) where
  pub value-neg : (q : List A) (e : A) → value_at o (map o.neg q) e ≡ o.neg (value_at o q e)
  value-neg [] e = sym (neg-zero o l)
  value-neg (c ∷ cs) e = ap (λ (t : A). o.add (o.neg c) (o.mul e t)) (value-neg cs e) ∙ ap (o.add (o.neg c)) (mul_neg o l e (value_at o cs e)) ∙ sym (neg-add o l c (o.mul e (value_at o cs e)))

  pub value-constant : (c e : A) → value_at o (constant o c) e ≡ c
  value-constant c e = ap (o.add c) (mul_zero o l e) ∙ l.add_zero c

  pub value_hom : (e : A) → IsHom (polynomial_ops o) o (λ q. value_at o q e)
  value_hom e = record {
    zero = refl;
    one = value-constant o.one e;
    add = λ x y. value-sum o l x y e;
    mul = λ x y. value-product o l x y e;
    neg = λ x. value-neg x e;
  }

  pub at_point : (e : A) (bound : List A) (w : List (List A)) → map (λ q. value_at o q e) (map (constant o) bound ++ (o.zero ∷ o.one ∷ []) ∷ w) ≡ bound ++ e ∷ map (λ q. value_at o q e) w
  at_point e [] w = ap (λ (t : A). t ∷ map (λ q. value_at o q e) w) (solve o l (e ∷ []) (nil ⊕ var 0 ⊗ (unit ⊕ var 0 ⊗ nil)) (var 0) refl)
  at_point e (b ∷ bs) w = ap₂ (λ (x : A) (xs : List A). x ∷ xs) (value-constant b e) (at_point e bs w)

  pub constants : (e : A) (z : List A) → map (λ q. value_at o q e) (map (constant o) z) ≡ z
  constants e [] = refl
  constants e (c ∷ cs) = ap₂ (λ (x : A) (xs : List A). x ∷ xs) (value-constant c e) (constants e cs)

-- What follows from the laws of a commutative ring
use Rattle.std.proofs.Common.{◌≡◌, sym, ◌∙◌, ap, ap₂}
use Rattle.field_ext.specs.Ring.{Ops, Laws}

module _ {A : Type 0} (o : Ops A) (l : Laws A o) where
  pub zero_add : (x : A) → o.add o.zero x ≡ x
  zero_add x = l.add_comm o.zero x ∙ l.add_zero x

  pub neg_add : (x : A) → o.add (o.neg x) x ≡ o.zero
  neg_add x = l.add_comm (o.neg x) x ∙ l.add_neg x

  pub add_left_comm : (x y z : A) → o.add x (o.add y z) ≡ o.add y (o.add x z)
  add_left_comm x y z = sym (l.add_assoc x y z) ∙ ap (λ (t : A). o.add t z) (l.add_comm x y) ∙ l.add_assoc y x z

  pub mul_left_comm : (x y z : A) → o.mul x (o.mul y z) ≡ o.mul y (o.mul x z)
  mul_left_comm x y z = sym (l.mul_assoc x y z) ∙ ap (λ (t : A). o.mul t z) (l.mul_comm x y) ∙ l.mul_assoc y x z

  pub add_mul : (x y z : A) → o.mul (o.add x y) z ≡ o.add (o.mul x z) (o.mul y z)
  add_mul x y z = l.mul_comm (o.add x y) z ∙ l.mul_add z x y ∙ ap₂ o.add (l.mul_comm z x) (l.mul_comm z y)

  pub one_mul : (x : A) → o.mul o.one x ≡ x
  one_mul x = l.mul_comm o.one x ∙ l.mul_one x

  pub add_cancel : (x y z : A) → o.add x z ≡ o.add y z → x ≡ y
  add_cancel x y z e =
      sym (l.add_zero x) ∙ ap (o.add x) (sym (l.add_neg z)) ∙ sym (l.add_assoc x z (o.neg z))
      ∙ ap (λ (t : A). o.add t (o.neg z)) e ∙ l.add_assoc y z (o.neg z) ∙ ap (o.add y) (l.add_neg z) ∙ l.add_zero y

  pub mul_zero : (x : A) → o.mul x o.zero ≡ o.zero
  mul_zero x =
      add_cancel (o.mul x o.zero) o.zero (o.mul x o.zero)
      (sym (l.mul_add x o.zero o.zero) ∙ ap (o.mul x) (l.add_zero o.zero) ∙ sym (zero_add (o.mul x o.zero)))

  pub zero_mul : (x : A) → o.mul o.zero x ≡ o.zero
  zero_mul x = l.mul_comm o.zero x ∙ mul_zero x

  pub neg_unique : (x y : A) → o.add x y ≡ o.zero → y ≡ o.neg x
  neg_unique x y e = add_cancel y (o.neg x) x (l.add_comm y x ∙ e ∙ sym (neg_add x))

  pub mul_neg : (x y : A) → o.mul x (o.neg y) ≡ o.neg (o.mul x y)
  mul_neg x y = neg_unique (o.mul x y) (o.mul x (o.neg y)) (sym (l.mul_add x y (o.neg y)) ∙ ap (o.mul x) (l.add_neg y) ∙ mul_zero x)

  pub neg_neg : (x : A) → o.neg (o.neg x) ≡ x
  neg_neg x = sym (neg_unique (o.neg x) x (neg_add x))

  pub neg-add : (x y : A) → o.neg (o.add x y) ≡ o.add (o.neg x) (o.neg y)
  neg-add x y = sym (neg_unique (o.add x y) (o.add (o.neg x) (o.neg y)) (l.add_assoc x y (o.add (o.neg x) (o.neg y)) ∙ ap (o.add x) (add_left_comm y (o.neg x) (o.neg y)) ∙ ap (λ (t : A). o.add x (o.add (o.neg x) t)) (l.add_neg y) ∙ ap (o.add x) (l.add_zero (o.neg x)) ∙ l.add_neg x))

  pub neg_mul : (x y : A) → o.mul (o.neg x) y ≡ o.neg (o.mul x y)
  neg_mul x y = l.mul_comm (o.neg x) y ∙ mul_neg y x ∙ ap o.neg (l.mul_comm y x)

  pub neg-zero : o.neg o.zero ≡ o.zero
  neg-zero = sym (neg_unique o.zero o.zero (l.add_zero o.zero))

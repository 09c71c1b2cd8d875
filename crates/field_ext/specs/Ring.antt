-- The operations of a ring, and its laws
use Rattle.std.specs.Prelude.{◌≡◌}

pub record Ops (A : Type 0) : Type 0 where
  pub zero : A
  pub one : A
  pub add : A → A → A
  pub mul : A → A → A
  pub neg : A → A

module _ (A : Type 0) (o : Ops A) where
  infixl 65 ◌⊕◌
  infixl 70 ◌⊗◌
  infix 75 ⊖◌
  open o use {add as ◌⊕◌, mul as ◌⊗◌, neg as ⊖◌}

  -- a commutative ring
  pub record Laws : Type 0 where
    pub add_assoc : (x y z : A) → (x ⊕ y) ⊕ z ≡ x ⊕ (y ⊕ z)
    pub add_comm : (x y : A) → x ⊕ y ≡ y ⊕ x
    pub add_zero : (x : A) → x ⊕ o.zero ≡ x
    pub add_neg : (x : A) → x ⊕ ⊖ x ≡ o.zero
    pub mul_assoc : (x y z : A) → (x ⊗ y) ⊗ z ≡ x ⊗ (y ⊗ z)
    pub mul_comm : (x y : A) → x ⊗ y ≡ y ⊗ x
    pub mul_one : (x : A) → x ⊗ o.one ≡ x
    pub mul_add : (x y z : A) → x ⊗ (y ⊕ z) ≡ x ⊗ y ⊕ x ⊗ z

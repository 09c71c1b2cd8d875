-- The field of p elements, and its square extension K by a root of -1.
use Rattle.std.specs.Prelude.{ℕ, ◌+◌, ◌-◌, ◌*◌, ◌%◌, ◌<◌, Bool, nat_eq, ◌&&◌}
use Rattle.std.proofs.Common.{mod-lt, lit<}
use Rattle.field_ext.specs.Ring.{Ops}

abbrev pub prime : ℕ
prime = 2147483647

-- a number below p
pub record F : Type 0 where
  pub value : ℕ
  pub below : value < prime

-- the number modulo p
unfoldable pub of : ℕ → F
of n = record { value = n % prime; below = mod-lt n (lit< tt) }

abbrev pub add_f : F → F → F
add_f a b = of (a.value + b.value)

abbrev pub mul_f : F → F → F
mul_f a b = of (a.value * b.value)

abbrev pub neg_f : F → F
neg_f a = of (prime - a.value)

abbrev pub f_ops : Ops F
f_ops = record { zero = of 0; one = of 1; add = add_f; mul = mul_f; neg = neg_f }

infixl 65 ◌⊕◌
infixl 70 ◌⊗◌
infix 75 ⊖◌
open f_ops use {add as ◌⊕◌, mul as ◌⊗◌, neg as ⊖◌}

abbrev pub sub_f : F → F → F
sub_f a b = a ⊕ ⊖ b

-- a + b i, where i i = -1
pub record K : Type 0 where
  pub re : F
  pub im : F

abbrev pub zero_k : K
zero_k = record { re = of 0; im = of 0 }

abbrev pub one_k : K
one_k = record { re = of 1; im = of 0 }

abbrev pub add_k : K → K → K
add_k x y = record { re = x.re ⊕ y.re; im = x.im ⊕ y.im }

abbrev pub neg_k : K → K
neg_k x = record { re = ⊖ x.re; im = ⊖ x.im }

abbrev pub sub_k : K → K → K
sub_k x y = record { re = sub_f x.re y.re; im = sub_f x.im y.im }

abbrev pub mul_k : K → K → K
mul_k x y = record { re = x.re ⊗ y.re ⊕ ⊖ (x.im ⊗ y.im); im = x.re ⊗ y.im ⊕ x.im ⊗ y.re }

abbrev pub k_ops : Ops K
k_ops = record { zero = zero_k; one = one_k; add = add_k; mul = mul_k; neg = neg_k }

-- the element of F_p as one of K
abbrev pub embed_k : F → K
embed_k a = record { re = a; im = of 0 }

-- whether two elements are equal
abbrev pub same_k : K → K → Bool
same_k x y = nat_eq x.re.value y.re.value && nat_eq x.im.value y.im.value

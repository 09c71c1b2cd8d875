-- F_p is a commutative ring
use Rattle.std.proofs.Common.{◌≡◌, ℕ, ◌+◌, ◌*◌, ap, subst, arith}
use Rattle.field_ext.specs.Ring.{Laws}
use Rattle.field_ext.specs.Field.{prime, F, of, add_f, mul_f, neg_f, f_ops}
use Rattle.field_ext.proofs.api.Prime.{same_rem}
use Rattle.field_ext.proofs.api.Elements.{of_self, of_same, add-of, mul-of, neg-of}

F_ind : (P : F → Type 0) → ((n : ℕ) → P (of n)) → (a : F) → P a
F_ind P h a = subst P (of_self a) (h a.value)

wraps : (n : ℕ) → of (n + 2147483646 * n) ≡ of 0
wraps n = of_same (n + 2147483646 * n) 0 (same_rem (n + 2147483646 * n) 0 prime 0 n (omega arith))

-- the laws, over numbers alone: the operations are kept shut, so that no step opens them
module _ (E : Type 0) (mk : ℕ → E) (q : ℕ) (add mul : E → E → E) (neg : E → E) (ind : (P : E → Type 0) → ((n : ℕ) → P (mk n)) → (x : E) → P x)
    (add_is : (m n : ℕ) → add (mk m) (mk n) ≡ mk (m + n))
    (mul_is : (m n : ℕ) → mul (mk m) (mk n) ≡ mk (m * n))
    (neg_is : (n : ℕ) → neg (mk n) ≡ mk (q * n))
    (wraps : (n : ℕ) → mk (n + q * n) ≡ mk 0) where
  same : (m n : ℕ) → m ≡ n → mk m ≡ mk n
  same m n e = ap mk e

  ind₂ : (P : E → E → Type 0) → ((m n : ℕ) → P (mk m) (mk n)) → (x y : E) → P x y
  ind₂ P h x y = ind (λ x. P x y) (λ m. ind (λ y. P (mk m) y) (λ n. h m n) y) x

  ind₃ : (P : E → E → E → Type 0) → ((m n r : ℕ) → P (mk m) (mk n) (mk r)) → (x y z : E) → P x y z
  ind₃ P h x y z = ind₂ (λ x y. P x y z) (λ m n. ind (λ z. P (mk m) (mk n) z) (λ r. h m n r) z) x y

  pub numbers_laws : Laws E record { zero = mk 0; one = mk 1; add = add; mul = mul; neg = neg }
  numbers_laws = record {
    add_assoc = ind₃ (λ x y z. add (add x y) z ≡ add x (add y z)) (λ m n r. simp add_is (same _ _ (omega arith)));
    add_comm = ind₂ (λ x y. add x y ≡ add y x) (λ m n. simp add_is (same _ _ (omega arith)));
    add_zero = ind (λ x. add x (mk 0) ≡ x) (λ m. simp add_is (same _ _ (omega arith)));
    add_neg = ind (λ x. add x (neg x) ≡ mk 0) (λ m. simp (neg_is, add_is) (wraps m));
    mul_assoc = ind₃ (λ x y z. mul (mul x y) z ≡ mul x (mul y z)) (λ m n r. simp mul_is (same _ _ (omega arith)));
    mul_comm = ind₂ (λ x y. mul x y ≡ mul y x) (λ m n. simp mul_is (same _ _ (omega arith)));
    mul_one = ind (λ x. mul x (mk 1) ≡ x) (λ m. simp mul_is (same _ _ (omega arith)));
    mul_add = ind₃ (λ x y z. mul x (add y z) ≡ add (mul x y) (mul x z)) (λ m n r. simp (mul_is, add_is) (same _ _ (omega arith)));
  }

pub f_laws : Laws F f_ops
f_laws = numbers_laws F of 2147483646 add_f mul_f neg_f F_ind add-of mul-of neg-of wraps

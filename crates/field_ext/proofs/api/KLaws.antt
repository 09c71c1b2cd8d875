-- K is a commutative ring with no zero divisors
use Rattle.std.proofs.Common.{◌≡◌, ℕ, ◌+◌, ◌*◌, ◌/◌, ◌%◌, ◌⊎◌, inl, inr, refl, sym, ◌∙◌, ap, ap₂, subst, arith, lit<}
use Rattle.std.proofs.Math.Nat.{div-add-mod}
use Rattle.field_ext.specs.Ring.{Laws}
use Rattle.field_ext.specs.Field.{prime, F, K, of, add_f, neg_f, zero_k, add_k, mul_k, neg_k, k_ops}
use Rattle.std.proofs.lemmas.Bool.{cases_eq}
use Rattle.field_ext.proofs.api.Prime.{same_rem, p_prime}
use Rattle.field_ext.proofs.Inverse.{euclid, sum_zero}
use Rattle.field_ext.proofs.api.Elements.{F_eq, of-value, of_self, of_same, add-of, mul-of, neg-of}

abbrev mk : ℕ → ℕ → K
mk a b = record { re = of a; im = of b }

K_ind : (P : K → Type 0) → ((a b : ℕ) → P (mk a b)) → (x : K) → P x
K_ind P h x = let e : mk x.re.value x.im.value ≡ x = λ i. record { re = of_self x.re i; im = of_self x.im i } in subst P e (h x.re.value x.im.value)

mk_same : (a b c d : ℕ) → a ≡ c → b ≡ d → mk a b ≡ mk c d
mk_same a b c d e f = ap₂ mk e f

add-mk : (a b c d : ℕ) → add_k (mk a b) (mk c d) ≡ mk (a + c) (b + d)
add-mk a b c d = λ i. record { re = add-of a c i; im = add-of b d i }

neg-mk : (a b : ℕ) → neg_k (mk a b) ≡ mk (2147483646 * a) (2147483646 * b)
neg-mk a b = λ i. record { re = neg-of a i; im = neg-of b i }

mul-mk : (a b c d : ℕ) → mul_k (mk a b) (mk c d) ≡ mk (a * c + 2147483646 * (b * d)) (a * d + b * c)
mul-mk a b c d =
    λ i. record {
      re = (ap₂ (λ (x y : F). add_f x (neg_f y)) (mul-of a c) (mul-of b d) ∙ ap (add_f (of (a * c))) (neg-of (b * d)) ∙ add-of (a * c) (2147483646 * (b * d))) i;
      im = (ap₂ add_f (mul-of a d) (mul-of b c) ∙ add-of (a * d) (b * c)) i;
    }

-- the laws, over numbers alone: the operations are kept shut, so that no step opens them
module _ (E : Type 0) (mk : ℕ → ℕ → E) (q : ℕ) (add mul : E → E → E) (neg : E → E) (ind : (P : E → Type 0) → ((a b : ℕ) → P (mk a b)) → (x : E) → P x)
    (add_is : (a b c d : ℕ) → add (mk a b) (mk c d) ≡ mk (a + c) (b + d))
    (mul_is : (a b c d : ℕ) → mul (mk a b) (mk c d) ≡ mk (a * c + q * (b * d)) (a * d + b * c))
    (neg_is : (a b : ℕ) → neg (mk a b) ≡ mk (q * a) (q * b))
    (wraps : (a b : ℕ) → mk (a + q * a) (b + q * b) ≡ mk 0 0) where
  same : (a b c d : ℕ) → a ≡ c → b ≡ d → mk a b ≡ mk c d
  same a b c d e f = ap₂ mk e f

  ind₃ : (P : E → E → E → Type 0) → ((a b c d e f : ℕ) → P (mk a b) (mk c d) (mk e f)) → (x y z : E) → P x y z
  ind₃ P h x y z = ind (λ x. P x y z) (λ a b. ind (λ y. P (mk a b) y z) (λ c d. ind (λ z. P (mk a b) (mk c d) z) (λ e f. h a b c d e f) z) y) x

  ind₂ : (P : E → E → Type 0) → ((a b c d : ℕ) → P (mk a b) (mk c d)) → (x y : E) → P x y
  ind₂ P h x y = ind (λ x. P x y) (λ a b. ind (λ y. P (mk a b) y) (λ c d. h a b c d) y) x

  pub pairs_laws : Laws E record { zero = mk 0 0; one = mk 1 0; add = add; mul = mul; neg = neg }
  pairs_laws = record {
    add_assoc = ind₃ (λ x y z. add (add x y) z ≡ add x (add y z)) (λ a b c d e f. simp add_is (same _ _ _ _ (omega arith) (omega arith)));
    add_comm = ind₂ (λ x y. add x y ≡ add y x) (λ a b c d. simp add_is (same _ _ _ _ (omega arith) (omega arith)));
    add_zero = ind (λ x. add x (mk 0 0) ≡ x) (λ a b. simp add_is (same _ _ _ _ (omega arith) (omega arith)));
    add_neg = ind (λ x. add x (neg x) ≡ mk 0 0) (λ a b. simp (neg_is, add_is) (wraps a b));
    mul_assoc = ind₃ (λ x y z. mul (mul x y) z ≡ mul x (mul y z)) (λ a b c d e f. simp mul_is (same _ _ _ _ (omega arith) (omega arith)));
    mul_comm = ind₂ (λ x y. mul x y ≡ mul y x) (λ a b c d. simp mul_is (same _ _ _ _ (omega arith) (omega arith)));
    mul_one = ind (λ x. mul x (mk 1 0) ≡ x) (λ a b. simp mul_is (same _ _ _ _ (omega arith) (omega arith)));
    mul_add = ind₃ (λ x y z. mul x (add y z) ≡ add (mul x y) (mul x z)) (λ a b c d e f. simp (mul_is, add_is) (same _ _ _ _ (omega arith) (omega arith)));
  }

wraps : (a : ℕ) → of (a + 2147483646 * a) ≡ of 0
wraps a = of_same (a + 2147483646 * a) 0 (same_rem (a + 2147483646 * a) 0 prime 0 a (omega arith))

pub k_laws : Laws K k_ops
k_laws = pairs_laws K mk 2147483646 add_k mul_k neg_k K_ind add-mk mul-mk neg-mk (λ a b. λ i. record { re = wraps a i; im = wraps b i })

norm_step : (p q a b c d k l : ℕ) → p ≡ q + 2 → p * k ≡ a * c + (q + 1) * (b * d) → p * l ≡ a * d + b * c →
    (a * a + b * b) * (c * c + d * d) + p * (2 * (a * b * c * d) + q * (b * b * d * d)) ≡ 0 + p * (k * (p * k) + l * (p * l))
norm_step p q a b c d k l e h1 h2 =
    let x : p * k * (p * k) ≡ (a * c + (q + 1) * (b * d)) * (a * c + (q + 1) * (b * d)) = ap (λ (t : ℕ). t * t) h1 in
    let y : p * l * (p * l) ≡ (a * d + b * c) * (a * d + b * c) = ap (λ (t : ℕ). t * t) h2 in
    let z : p * (2 * (a * b * c * d) + q * (b * b * d * d)) ≡ (q + 2) * (2 * (a * b * c * d) + q * (b * b * d * d)) = ap (λ (t : ℕ). t * (2 * (a * b * c * d) + q * (b * b * d * d))) e in
    omega (arith, x, y, z)

norm_zero : (x : K) → (x.re.value * x.re.value + x.im.value * x.im.value) % prime ≡ 0 → x ≡ zero_k
norm_zero x z =
    let a : ℕ = x.re.value in
    let b : ℕ = x.im.value in
    let hb : b % prime ≡ 0 = sum_zero 2147483646 (lit< tt) p_prime refl a b z in
    let turned : b * b + a * a ≡ a * a + b * b = omega arith in
    let ha : a % prime ≡ 0 = sum_zero 2147483646 (lit< tt) p_prime refl b a (ap (λ (t : ℕ). t % prime) turned ∙ z) in
    λ i. record { re = (sym (of_self x.re) ∙ of_same a 0 ha) i; im = (sym (of_self x.im) ∙ of_same b 0 hb) i }

pub k_no_zero_divisors : (x y : K) → mul_k x y ≡ zero_k → (x ≡ zero_k) ⊎ (y ≡ zero_k)
k_no_zero_divisors x y e =
    let a : ℕ = x.re.value in
    let b : ℕ = x.im.value in
    let c : ℕ = y.re.value in
    let d : ℕ = y.im.value in
    let ex : mk a b ≡ x = λ i. record { re = of_self x.re i; im = of_self x.im i } in
    let ey : mk c d ≡ y = λ i. record { re = of_self y.re i; im = of_self y.im i } in
    let w : mk (a * c + 2147483646 * (b * d)) (a * d + b * c) ≡ zero_k = sym (mul-mk a b c d) ∙ ap₂ mul_k ex ey ∙ e in
    let h1 : (a * c + 2147483646 * (b * d)) % prime ≡ 0 = sym (of-value (a * c + 2147483646 * (b * d))) ∙ ap (λ (t : K). t.re.value) w ∙ of-value 0 in
    let h2 : (a * d + b * c) % prime ≡ 0 = sym (of-value (a * d + b * c)) ∙ ap (λ (t : K). t.im.value) w ∙ of-value 0 in
    let d1 = div-add-mod (a * c + 2147483646 * (b * d)) prime in
    let d2 = div-add-mod (a * d + b * c) prime in
    let k : ℕ = (a * c + 2147483646 * (b * d)) / prime in
    let l : ℕ = (a * d + b * c) / prime in
    let n = norm_step prime 2147483645 a b c d k l refl (omega (arith, d1, h1)) (omega (arith, d2, h2)) in
    let z : ((a * a + b * b) * (c * c + d * d)) % prime ≡ 0 = same_rem _ 0 prime _ _ n in
    elim (cases_eq ((a * a + b * b) % prime) 0) [
      | inl e1 ↦ inl (norm_zero x e1)
      | inr ne ↦ inr (norm_zero y (euclid 2147483646 (lit< tt) p_prime (a * a + b * b) (c * c + d * d) z ne))
    ]

-- equality is decided
pub k_same : (x y : K) → (x ≡ y) ⊎ (x ≡ y → ⊥)
k_same x y =
    elim (cases_eq x.re.value y.re.value) [
      | inl e ↦
          elim (cases_eq x.im.value y.im.value) [
            | inl f ↦ inl (λ i. record { re = F_eq x.re y.re e i; im = F_eq x.im y.im f i })
            | inr n ↦ inr (λ h. n (ap (λ (t : K). t.im.value) h))
          ]
      | inr n ↦ inr (λ h. n (ap (λ (t : K). t.re.value) h))
    ]

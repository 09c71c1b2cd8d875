-- The elements of F_p lie in K with their sums, products and opposites
use Rattle.std.proofs.Common.{◌≡◌, ℕ, ◌+◌, ◌*◌, sym, ◌∙◌, ap, ap₂, subst, arith}
use Rattle.field_ext.specs.Field.{F, of, add_f, mul_f, neg_f, sub_f, add_k, mul_k, neg_k, embed_k}
use Rattle.field_ext.proofs.api.Elements.{of_self, add-of, mul-of, neg-of}

at_numbers : (P : F → Type 0) → ((n : ℕ) → P (of n)) → (a : F) → P a
at_numbers P h a = subst P (of_self a) (h a.value)

zero_sum : of 0 ≡ add_f (of 0) (of 0)
zero_sum = sym (add-of 0 0)

zero_neg : of 0 ≡ neg_f (of 0)
zero_neg = sym (neg-of 0)

pub embed-add : (a b : F) → embed_k (add_f a b) ≡ add_k (embed_k a) (embed_k b)
embed-add a b = λ i. record { re = add_f a b; im = zero_sum i }

pub embed-neg : (a : F) → embed_k (neg_f a) ≡ neg_k (embed_k a)
embed-neg a = λ i. record { re = neg_f a; im = zero_neg i }

-- no part of a product of embedded elements but the first is left
first_part : (m n : ℕ) → of (m * n) ≡ sub_f (mul_f (of m) (of n)) (mul_f (of 0) (of 0))
first_part m n =
    sym (ap₂ sub_f (mul-of m n) (mul-of 0 0) ∙ ap (add_f (of (m * n))) (neg-of 0) ∙ add-of (m * n) 0 ∙ ap of same)
  where
    same : m * n + 0 ≡ m * n
    same = omega arith

other_part : (m n : ℕ) → of 0 ≡ add_f (mul_f (of m) (of 0)) (mul_f (of 0) (of n))
other_part m n = sym (ap₂ add_f (mul-of m 0) (mul-of 0 n) ∙ add-of (m * 0) (0 * n) ∙ ap of none)
  where
    none : m * 0 + 0 * n ≡ 0
    none = omega arith

embed-mul-of : (m n : ℕ) → embed_k (mul_f (of m) (of n)) ≡ mul_k (embed_k (of m)) (embed_k (of n))
embed-mul-of m n = λ i. record { re = (mul-of m n ∙ first_part m n) i; im = other_part m n i }

pub embed-mul : (a b : F) → embed_k (mul_f a b) ≡ mul_k (embed_k a) (embed_k b)
embed-mul a b =
    at_numbers (λ x. embed_k (mul_f x b) ≡ mul_k (embed_k x) (embed_k b))
    (λ m. at_numbers (λ y. embed_k (mul_f (of m) y) ≡ mul_k (embed_k (of m)) (embed_k y)) (λ n. embed-mul-of m n) b) a

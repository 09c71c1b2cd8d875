-- Products with elements of the base field
use Rattle.std.proofs.Common.{◌≡◌, ℕ, ◌+◌, ◌*◌, arith, sym, ◌∙◌, ap, ap₂, subst}
use Rattle.field_ext.specs.Field.{F, K, of, add_f, mul_f, neg_f, sub_f, add_k, sub_k, mul_k, embed_k}
use Rattle.field_ext.proofs.api.Elements.{of_self, add-of, mul-of, neg-of}
use Rattle.field_ext.proofs.api.Embedding.{embed-add, embed-neg}

for_numbers : (P : F → Type 0) → ((n : ℕ) → P (of n)) → (a : F) → P a
for_numbers P h a = subst P (of_self a) (h a.value)

zero_left : (y : F) → mul_f (of 0) y ≡ of 0
zero_left = for_numbers (λ y. mul_f (of 0) y ≡ of 0) (λ n. let e : 0 * n ≡ 0 = omega arith in mul-of 0 n ∙ ap of e)

zero_right : (y : F) → mul_f y (of 0) ≡ of 0
zero_right = for_numbers (λ y. mul_f y (of 0) ≡ of 0) (λ n. let e : n * 0 ≡ 0 = omega arith in mul-of n 0 ∙ ap of e)

less_nothing : (y : F) → sub_f y (of 0) ≡ y
less_nothing = for_numbers (λ y. sub_f y (of 0) ≡ y) (λ n. let e : n + 2147483646 * 0 ≡ n = omega arith in ap (add_f (of n)) (neg-of 0) ∙ add-of n (2147483646 * 0) ∙ ap of e)

and_nothing : (y : F) → add_f y (of 0) ≡ y
and_nothing = for_numbers (λ y. add_f y (of 0) ≡ y) (λ n. let e : n + 0 ≡ n = omega arith in add-of n 0 ∙ ap of e)

nothing_and : (y : F) → add_f (of 0) y ≡ y
nothing_and = for_numbers (λ y. add_f (of 0) y ≡ y) (λ n. let e : 0 + n ≡ n = omega arith in add-of 0 n ∙ ap of e)

pub multiple_left : (x : F) (y : K) (a b : F) → a ≡ mul_f x y.re → b ≡ mul_f x y.im → record { re = a; im = b } ≡ mul_k (embed_k x) y
multiple_left x y a b ha hb = λ i. record {
  re = (ha ∙ sym (ap (sub_f (mul_f x y.re)) (zero_left y.im) ∙ less_nothing (mul_f x y.re))) i;
  im = (hb ∙ sym (ap (add_f (mul_f x y.im)) (zero_left y.re) ∙ and_nothing (mul_f x y.im))) i;
}

pub multiple_right : (r : K) (x : F) (a b : F) → a ≡ mul_f r.re x → b ≡ mul_f r.im x → record { re = a; im = b } ≡ mul_k r (embed_k x)
multiple_right r x a b ha hb = λ i. record {
  re = (ha ∙ sym (ap (sub_f (mul_f r.re x)) (zero_right r.im) ∙ less_nothing (mul_f r.re x))) i;
  im = (hb ∙ sym (ap (λ (t : F). add_f t (mul_f r.im x)) (zero_right r.re) ∙ nothing_and (mul_f r.im x))) i;
}

pub embedded : (x : K) → x.im ≡ of 0 → embed_k x.re ≡ x
embedded x e = λ i. record { re = x.re; im = sym e i }

pub base_difference : (x y : K) (d : F) → x.im ≡ of 0 → y.im ≡ of 0 → d ≡ sub_f x.re y.re → embed_k d ≡ sub_k x y
base_difference x y d e f h = ap embed_k h ∙ embed-add x.re (neg_f y.re) ∙ ap (add_k (embed_k x.re)) (embed-neg y.re) ∙ ap₂ sub_k (embedded x e) (embedded y f)

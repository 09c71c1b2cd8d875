-- Sums below a number: one sum after another, and a sum of zeros
use Rattle.std.proofs.Common.{◌≡◌, ℕ, zero, suc, ◌+◌, refl, sym, ◌∙◌, ap, arith}
use Rattle.field_ext.specs.Ring.{Ops, Laws}
use Rattle.field_ext.specs.Sums.{sum_below}

module _ {A : Type 0} (o : Ops A) (l : Laws A o) where
  pub sum_below-append : (m n : ℕ) (f : ℕ → A) → sum_below o (m + n) f ≡ o.add (sum_below o m f) (sum_below o n (λ j. f (m + j)))
  sum_below-append m zero f = let e : m + 0 ≡ m = omega arith in ap (λ (i : ℕ). sum_below o i f) e ∙ sym (l.add_zero (sum_below o m f))
  sum_below-append m (suc n) f =
      let e : m + suc n ≡ suc (m + n) = omega arith in
      ap (λ (i : ℕ). sum_below o i f) e ∙ ap (λ (x : A). o.add x (f (m + n))) (sum_below-append m n f) ∙ l.add_assoc (sum_below o m f) (sum_below o n (λ j. f (m + j))) (f (m + n))

  pub sum_below-zero : (n : ℕ) → sum_below o n (λ k. o.zero) ≡ o.zero
  sum_below-zero zero = refl
  sum_below-zero (suc n) = l.add_zero (sum_below o n (λ k. o.zero)) ∙ sum_below-zero n

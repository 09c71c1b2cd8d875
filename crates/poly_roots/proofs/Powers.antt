-- The value of a polynomial by the powers of the point
use Rattle.std.proofs.Common.{◌≡◌, ℕ, zero, suc, List, [], ◌∷◌, length, get_or, refl, sym, ◌∙◌, ap, ap₂}
use Rattle.field_ext.specs.Ring.{Ops, Laws}
use Rattle.field_ext.specs.Polynomial.{value_at, power}
use Rattle.field_ext.specs.Sums.{sum_below}
use Rattle.field_ext.proofs.api.Rings.{mul_zero, mul_left_comm}
use Rattle.field_ext.proofs.api.Sums.{sum_below-front}

module _ {A : Type 0} (o : Ops A) (l : Laws A o) where
  sum_scaled : (n : ℕ) (c : A) (f : ℕ → A) → sum_below o n (λ k. o.mul c (f k)) ≡ o.mul c (sum_below o n f)
  sum_scaled zero c f = sym (mul_zero o l c)
  sum_scaled (suc n) c f = ap (λ (t : A). o.add t (o.mul c (f n))) (sum_scaled n c f) ∙ sym (l.mul_add c (sum_below o n f) (f n))

  pub value_by_powers : (cs : List A) (e : A) → value_at o cs e ≡ sum_below o (length cs) (λ n. o.mul (get_or cs n o.zero) (power o e n))
  value_by_powers [] e = refl
  value_by_powers (c ∷ cs) e =
      let term : ℕ → A = λ n. o.mul (get_or cs n o.zero) (power o e n) in
      let turned : (n : ℕ) → o.mul e (term n) ≡ o.mul (get_or cs n o.zero) (o.mul e (power o e n)) = λ n. mul_left_comm o l e (get_or cs n o.zero) (power o e n) in
      ap₂ o.add (sym (l.mul_one c)) (ap (o.mul e) (value_by_powers cs e) ∙ sym (sum_scaled (length cs) e term) ∙ (λ i. sum_below o (length cs) (λ n. turned n i)))
      ∙ sym (sum_below-front o l (length cs) (λ n. o.mul (get_or (c ∷ cs) n o.zero) (power o e n)))

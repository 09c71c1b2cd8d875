-- A polynomial of few coefficients is known by its values, and its coefficients give them
use Rattle.std.proofs.Common.{◌≡◌, ◌≢◌, ℕ, zero, suc, ◌%◌, ◌<◌, ◌≤◌, List, [], ◌∷◌, length, All, refl, ap, ap₂, arith, ◌∙◌}
use Rattle.std.proofs.lemmas.List.Elements.{All-cons, All-nil}
use Rattle.field_ext.specs.Ring.{Ops, Laws}
use Rattle.field_ext.specs.Field.{K, k_ops, prime, of}
use Rattle.field_ext.specs.Polynomial.{value_at, SamePolynomial, coefficients, Distinct}
use Rattle.field_ext.proofs.api.Rings.{mul_zero}
use Rattle.field_ext.proofs.api.KLaws.{k_laws, k_same, k_no_zero_divisors}
use Rattle.gkr_layers.proofs.api.Degree.{same_from_values}

number : ℕ → K
unfolding of
number n = record { re = of n; im = of 0 }

number-same : (m n : ℕ) → m < prime → n < prime → number m ≡ number n → m ≡ n
unfolding number of
number-same m n u v h = let e : m % prime ≡ n % prime = λ i. (h i).re.value in omega (arith, e)

abbrev numbers : ℕ → List K
numbers zero = []
numbers (suc n) = number n ∷ numbers n

length-numbers : (n : ℕ) → length (numbers n) ≡ n
length-numbers zero = refl
length-numbers (suc n) = ap (λ (k : ℕ). suc k) (length-numbers n)

others : (m n : ℕ) → n ≤ m → m < prime → All (λ y. number m ≢ y) (numbers n)
others m zero u v = All-nil (λ y. number m ≢ y)
others m (suc n) u v = All-cons (λ y. number m ≢ y) (number n) (numbers n) (λ h. let e : m ≡ n = number-same m n v (omega arith) h in absurd (omega arith)) (others m n (omega arith) v)

distinct-numbers : (n : ℕ) → n ≤ prime → Distinct (numbers n)
distinct-numbers zero u = tt
distinct-numbers (suc n) u = (others n n (omega arith) (omega arith), distinct-numbers n (omega arith))

module _ {A : Type 0} (o : Ops A) where
  from_same : (n : ℕ) (q p : List A) → length q ≡ n → SamePolynomial o q p → q ≡ coefficients o n p
  from_same zero [] p u s = refl
  from_same zero (c ∷ cs) p u s = absurd (omega arith)
  from_same (suc n) [] p u s = absurd (omega arith)
  from_same (suc n) (c ∷ cs) [] u s = ap₂ (λ (x : A) (xs : List A). x ∷ xs) (s 0) (from_same n cs [] (omega arith) (λ j. s (suc j)))
  from_same (suc n) (c ∷ cs) (d ∷ ds) u s = ap₂ (λ (x : A) (xs : List A). x ∷ xs) (s 0) (from_same n cs ds (omega arith) (λ j. s (suc j)))

  pub length-coefficients : (n : ℕ) (p : List A) → length (coefficients o n p) ≡ n
  length-coefficients zero p = refl
  length-coefficients (suc n) [] = ap (λ (k : ℕ). suc k) (length-coefficients n [])
  length-coefficients (suc n) (c ∷ cs) = ap (λ (k : ℕ). suc k) (length-coefficients n cs)

-- a list of n coefficients with the values of a polynomial of at most n is its coefficients
pub from_values : (n : ℕ) (q p : List K) → n < prime → length q ≡ n → length p ≤ n → ((e : K) → value_at k_ops q e ≡ value_at k_ops p e) → q ≡ coefficients k_ops n p
from_values zero [] p small u v h = refl
from_values zero (c ∷ cs) p small u v h = absurd (omega arith)
from_values (suc n) q p small u v h =
    let m = length-numbers (suc n) in
    from_same k_ops (suc n) q p u (same_from_values k_ops k_laws k_no_zero_divisors k_same n q p (numbers (suc n)) (omega arith) (omega arith) (distinct-numbers (suc n) (omega arith)) (omega arith) h)

module _ {A : Type 0} (o : Ops A) (l : Laws A o) where
  pub value-coefficients : (n : ℕ) (p : List A) (e : A) → length p ≤ n → value_at o (coefficients o n p) e ≡ value_at o p e
  value-coefficients zero [] e u = refl
  value-coefficients zero (c ∷ cs) e u = absurd (omega arith)
  value-coefficients (suc n) [] e u = ap (λ (x : A). o.add o.zero (o.mul e x)) (value-coefficients n [] e (omega arith)) ∙ ap (o.add o.zero) (mul_zero o l e) ∙ l.add_zero o.zero
  value-coefficients (suc n) (c ∷ cs) e u = ap (λ (x : A). o.add c (o.mul e x)) (value-coefficients n cs e (omega arith))

-- Sums over blocks of the same size, and the equality polynomial at a position of a copy
use Rattle.std.proofs.Common.{◌≡◌, ℕ, zero, suc, ◌+◌, ◌*◌, ◌/◌, ◌^◌, ◌<◌, ◌≤◌, List, [], ◌∷◌, ◌++◌, length, refl, sym, ◌∙◌, ap, ap₂, arith, pow-suc, length-append}
use Rattle.std.proofs.lemmas.Nat.{div-mul-add}
use Rattle.field_ext.specs.Ring.{Ops, Laws}
use Rattle.field_ext.specs.Sums.{sum_below}
use Rattle.field_ext.specs.Multilinear.{eq_poly}
use Rattle.field_ext.proofs.api.Rings.{mul_zero, zero_mul, add_mul}
use Rattle.field_ext.proofs.api.Solve.{var, unit, ◌⊕◌, ◌⊗◌, minus, solve}
use Rattle.mle_table.proofs.api.SumLaws.{sum_below-same, sum_below-pairs}
use Rattle.mle_table.proofs.api.Fold.{eq-even, eq-odd}
use Rattle.mle_table.proofs.api.EqualitySteps.{eq-append, eq-beyond}
use Rattle.wiring_poly.proofs.api.Sums.{sum_below-append}
use Rattle.batch_core.specs.Copies.{joined}

pub length-joined : {X : Type 0} (m q : ℕ) (f : ℕ → List X) → ((c : ℕ) → length (f c) ≡ q) → length (joined m f) ≡ m * q
length-joined zero q f s = omega arith
length-joined (suc m) q f s = omega (arith, length-append (joined m f) (f m), length-joined m q f s, s m)

module _ {A : Type 0} (o : Ops A) (l : Laws A o) where
  pub sum_below-scale : (n : ℕ) (c : A) (f : ℕ → A) → sum_below o n (λ k. o.mul c (f k)) ≡ o.mul c (sum_below o n f)
  sum_below-scale zero c f = sym (mul_zero o l c)
  sum_below-scale (suc n) c f = ap (λ (x : A). o.add x (o.mul c (f n))) (sum_below-scale n c f) ∙ sym (l.mul_add c (sum_below o n f) (f n))

  pub sum_below-times : (n : ℕ) (f : ℕ → A) (c : A) → sum_below o n (λ k. o.mul (f k) c) ≡ o.mul (sum_below o n f) c
  sum_below-times zero f c = sym (zero_mul o l c)
  sum_below-times (suc n) f c = ap (λ (x : A). o.add x (o.mul (f n) c)) (sum_below-times n f c) ∙ sym (add_mul o l (sum_below o n f) (f n) c)

  -- m blocks of q terms
  pub sum_below-blocks : (m q : ℕ) (f : ℕ → A) → sum_below o (m * q) f ≡ sum_below o m (λ e. sum_below o q (λ g. f (e * q + g)))
  sum_below-blocks zero q f = let e : 0 * q ≡ 0 = omega arith in ap (λ (i : ℕ). sum_below o i f) e
  sum_below-blocks (suc m) q f =
      let e : suc m * q ≡ m * q + q = omega arith in
      ap (λ (i : ℕ). sum_below o i f) e ∙ sum_below-append o l (m * q) q f
      ∙ ap (λ (x : A). o.add x (sum_below o q (λ g. f (m * q + g)))) (sum_below-blocks m q f)

  -- position g of copy e of 2 ^ m positions each
  pub eq-copy : (z y : List A) (m e g : ℕ) → length z ≡ m → g < 2 ^ m → eq_poly o (z ++ y) (e * 2 ^ m + g) ≡ o.mul (eq_poly o z g) (eq_poly o y e)
  eq-copy z y m e g s u =
      let turned : e * 2 ^ m + g ≡ g + e * 2 ^ m = omega arith in
      let most : length z ≤ m = omega arith in
      eq-append o l z y (e * 2 ^ m + g)
      ∙ ap₂ (λ (x : A) (k : ℕ). o.mul x (eq_poly o y k))
      (ap (eq_poly o z) turned ∙ eq-beyond o l z m g e most)
      (ap (λ (i : ℕ). (e * 2 ^ m + g) / 2 ^ i) s ∙ div-mul-add e (2 ^ m) g u)

  -- the equality polynomial adds to 1 over all numbers
  pub sum-one : (y : List A) → sum_below o (2 ^ length y) (eq_poly o y) ≡ o.one
  sum-one [] = l.add_comm o.zero o.one ∙ l.add_zero o.one
  sum-one (y ∷ ys) =
      ap (λ (n : ℕ). sum_below o n (eq_poly o (y ∷ ys))) (pow-suc 2 (length ys))
      ∙ sum_below-pairs o l (2 ^ length ys) (eq_poly o (y ∷ ys))
      ∙ sum_below-same o l (2 ^ length ys) _ (eq_poly o ys) (λ h u.
      ap₂ o.add (eq-even o l y ys h) (eq-odd o l y ys h)
      ∙ solve o l (y ∷ eq_poly o ys h ∷ []) ((unit ⊕ minus (var 0)) ⊗ var 1 ⊕ var 0 ⊗ var 1) (var 1) refl)
      ∙ sum-one ys

-- Laws of finite sums
use Rattle.std.proofs.Common.{◌≡◌, ℕ, zero, suc, ◌+◌, ◌*◌, ◌<◌, List, [], ◌∷◌, refl, sym, ◌∙◌, ap, ap₂, arith}
use Rattle.field_ext.specs.Ring.{Ops, Laws}
use Rattle.field_ext.proofs.api.Solve.{var, ◌⊕◌, solve}
use Rattle.field_ext.specs.Sums.{sum_below, sum_cube}

module _ {A : Type 0} (o : Ops A) (l : Laws A o) where
  pub sum_below-same : (n : ℕ) (f h : ℕ → A) → ((k : ℕ) → k < n → f k ≡ h k) → sum_below o n f ≡ sum_below o n h
  sum_below-same zero f h e = refl
  sum_below-same (suc n) f h e = ap₂ o.add (sum_below-same n f h (λ k u. e k (omega arith))) (e n (omega arith))

  -- a sum over pairs
  pub sum_below-pairs : (n : ℕ) (f : ℕ → A) → sum_below o (n * 2) f ≡ sum_below o n (λ h. o.add (f (h * 2)) (f (h * 2 + 1)))
  sum_below-pairs zero f = refl
  sum_below-pairs (suc n) f =
      let e : suc n * 2 ≡ suc (suc (n * 2)) = omega arith in
      let s : suc (n * 2) ≡ n * 2 + 1 = omega arith in
      ap (λ (k : ℕ). sum_below o k f) e
      ∙ l.add_assoc (sum_below o (n * 2) f) (f (n * 2)) (f (suc (n * 2)))
      ∙ ap₂ o.add (sum_below-pairs n f) (ap (λ (k : ℕ). o.add (f (n * 2)) (f k)) s)

  pub sum_cube-same : (n : ℕ) (f h : List A → A) → ((w : List A) → f w ≡ h w) → sum_cube o n f ≡ sum_cube o n h
  sum_cube-same zero f h e = e []
  sum_cube-same (suc n) f h e = ap₂ o.add (sum_cube-same n _ _ (λ w. e (o.zero ∷ w))) (sum_cube-same n _ _ (λ w. e (o.one ∷ w)))

  pub sum_cube-add : (n : ℕ) (f h : List A → A) → sum_cube o n (λ w. o.add (f w) (h w)) ≡ o.add (sum_cube o n f) (sum_cube o n h)
  sum_cube-add zero f h = refl
  sum_cube-add (suc n) f h =
      ap₂ o.add (sum_cube-add n (λ w. f (o.zero ∷ w)) (λ w. h (o.zero ∷ w))) (sum_cube-add n (λ w. f (o.one ∷ w)) (λ w. h (o.one ∷ w)))
      ∙ solve o l (sum_cube o n (λ w. f (o.zero ∷ w)) ∷ sum_cube o n (λ w. h (o.zero ∷ w)) ∷ sum_cube o n (λ w. f (o.one ∷ w)) ∷ sum_cube o n (λ w. h (o.one ∷ w)) ∷ [])
      (var 0 ⊕ var 1 ⊕ (var 2 ⊕ var 3)) (var 0 ⊕ var 2 ⊕ (var 1 ⊕ var 3)) refl

  pub sum_cube-scale : (n : ℕ) (c : A) (f : List A → A) → sum_cube o n (λ w. o.mul c (f w)) ≡ o.mul c (sum_cube o n f)
  sum_cube-scale zero c f = refl
  sum_cube-scale (suc n) c f =
      ap₂ o.add (sum_cube-scale n c (λ w. f (o.zero ∷ w))) (sum_cube-scale n c (λ w. f (o.one ∷ w)))
      ∙ sym (l.mul_add c (sum_cube o n (λ w. f (o.zero ∷ w))) (sum_cube o n (λ w. f (o.one ∷ w))))

  pub sum_cube-zero : (n : ℕ) → sum_cube o n (λ w. o.zero) ≡ o.zero
  sum_cube-zero zero = refl
  sum_cube-zero (suc n) = ap₂ o.add (sum_cube-zero n) (sum_cube-zero n) ∙ l.add_zero o.zero

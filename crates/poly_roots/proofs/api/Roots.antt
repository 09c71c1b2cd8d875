-- A polynomial has fewer roots than coefficients
use Rattle.std.proofs.Common.{◌≡◌, ◌≢◌, ℕ, zero, suc, ◌+◌, ◌<◌, ◌≤◌, ◌⊎◌, inl, inr, List, [], ◌∷◌, length, All, refl, sym, ◌∙◌, ap, ap₂, arith}
use Rattle.std.proofs.Common.{get_or}
use Rattle.std.proofs.lemmas.List.Elements.{All-head, All-tail, All-cons, All-nil}
use Rattle.field_ext.specs.Ring.{Ops, Laws}
use Rattle.field_ext.specs.Polynomial.{value_at, IsZero, Distinct, HasAtMost}
use Rattle.field_ext.proofs.api.Solve.{var, ◌⊕◌, ◌⊗◌, minus, solve}
use Rattle.field_ext.proofs.api.Rings.{zero_add, add_cancel, mul_zero}

module _ {A : Type 0} (o : Ops A) (l : Laws A o) where
  -- the quotient of X P by X - a
  abbrev quotient : List A → A → List A
  quotient [] a = []
  quotient (c ∷ cs) a = value_at o (c ∷ cs) a ∷ quotient cs a

  quotient_step : (x a c s t q : A) → o.add (o.mul x s) (o.mul a q) ≡ o.add (o.mul a t) (o.mul x q) →
      o.add (o.mul x (o.add c (o.mul x s))) (o.mul a (o.add (o.add c (o.mul a t)) (o.mul x q)))
      ≡ o.add (o.mul a (o.add c (o.mul a t))) (o.mul x (o.add (o.add c (o.mul a t)) (o.mul x q)))
  quotient_step x a c s t q h =
      -- the equation of the tails, times x, is added to both sides
      let g : o.mul x (o.add (o.mul x s) (o.mul a q)) ≡ o.mul x (o.add (o.mul a t) (o.mul x q)) = ap (o.mul x) h in
      let x' = var 0 in let a' = var 1 in let c' = var 2 in let s' = var 3 in let t' = var 4 in let q' = var 5 in
      let whole = solve o l (x ∷ a ∷ c ∷ s ∷ t ∷ q ∷ [])
      ((x' ⊗ (c' ⊕ x' ⊗ s') ⊕ a' ⊗ ((c' ⊕ a' ⊗ t') ⊕ x' ⊗ q')) ⊕ x' ⊗ (a' ⊗ t' ⊕ x' ⊗ q'))
      ((a' ⊗ (c' ⊕ a' ⊗ t') ⊕ x' ⊗ ((c' ⊕ a' ⊗ t') ⊕ x' ⊗ q')) ⊕ x' ⊗ (x' ⊗ s' ⊕ a' ⊗ q'))
      refl in
      add_cancel o l _ _ _ (whole ∙ ap (o.add _) g)

  quotient_is : (cs : List A) (a x : A) →
      o.add (o.mul x (value_at o cs x)) (o.mul a (value_at o (quotient cs a) x)) ≡ o.add (o.mul a (value_at o cs a)) (o.mul x (value_at o (quotient cs a) x))
  quotient_is [] a x =
      let z = mul_zero o l in ap₂ o.add (z x ∙ sym (z a)) (z a ∙ sym (z x))
  quotient_is (c ∷ cs) a x = quotient_step x a c (value_at o cs x) (value_at o cs a) (value_at o (quotient cs a) x) (quotient_is cs a x)

  length-quotient : (cs : List A) (a : A) → length (quotient cs a) ≡ length cs
  length-quotient [] a = refl
  length-quotient (c ∷ cs) a = ap (λ (n : ℕ). suc n) (length-quotient cs a)

  -- a polynomial whose quotient is 0 is 0 itself
  zero_quotient : (cs : List A) (a : A) → IsZero o (quotient cs a) → IsZero o cs × (value_at o cs a ≡ o.zero)
  zero_quotient [] a h = (h, refl)
  zero_quotient (c ∷ cs) a h =
      let P : A → Type 0 = λ t. t ≡ o.zero in
      let root : value_at o (c ∷ cs) a ≡ o.zero = All-head P (value_at o (c ∷ cs) a) (quotient cs a) h in
      let rest = zero_quotient cs a (All-tail P (value_at o (c ∷ cs) a) (quotient cs a) h) in
      let first : c ≡ o.zero = sym (l.add_zero c) ∙ ap (o.add c) (sym (mul_zero o l a)) ∙ ap (λ (t : A). o.add c (o.mul a t)) (sym rest.1) ∙ root in
      (All-cons P c cs first rest.0, root)

  -- no zero divisors
  module _ (domain : (x y : A) → o.mul x y ≡ o.zero → (x ≡ o.zero) ⊎ (y ≡ o.zero)) where
    pub same_from_product : (a x q : A) → a ≢ x → o.mul a q ≡ o.mul x q → q ≡ o.zero
    same_from_product a x q n e =
        let whole = solve o l (a ∷ x ∷ q ∷ []) ((var 1 ⊕ minus (var 0)) ⊗ var 2 ⊕ var 0 ⊗ var 2) (var 1 ⊗ var 2) refl in
        let z : o.mul (o.add x (o.neg a)) q ≡ o.zero = add_cancel o l _ o.zero (o.mul a q) (whole ∙ sym e ∙ sym (zero_add o l (o.mul a q))) in
        elim (domain (o.add x (o.neg a)) q z) [
          | inl d ↦ absurd (n (sym (add_cancel o l x a (o.neg a) (d ∙ sym (l.add_neg a)))))
          | inr d ↦ d
        ]

    other_root : (c : A) (cs : List A) (a x : A) → a ≢ x → value_at o (c ∷ cs) a ≡ o.zero → value_at o (c ∷ cs) x ≡ o.zero → value_at o (quotient cs a) x ≡ o.zero
    other_root c cs a x n ra rx =
        let s = value_at o cs x in
        let t = value_at o cs a in
        let q = value_at o (quotient cs a) x in
        let e : o.mul x s ≡ o.mul a t = add_cancel o l (o.mul x s) (o.mul a t) c (l.add_comm (o.mul x s) c ∙ rx ∙ sym ra ∙ l.add_comm c (o.mul a t)) in
        let f : o.add (o.mul x s) (o.mul a q) ≡ o.add (o.mul a t) (o.mul x q) = quotient_is cs a x in
        same_from_product a x q n
        (add_cancel o l (o.mul a q) (o.mul x q) (o.mul x s)
        (l.add_comm (o.mul a q) (o.mul x s) ∙ f ∙ l.add_comm (o.mul a t) (o.mul x q) ∙ ap (o.add (o.mul x q)) (sym e)))

    IsRoot : List A → A → Type 0
    IsRoot cs e = value_at o cs e ≡ o.zero

    pub roots_below : (n : ℕ) (cs xs : List A) → length cs ≤ n → ¬ IsZero o cs → Distinct xs → All (λ e. value_at o cs e ≡ o.zero) xs → length xs < length cs
    roots_below n [] xs u nz ds rs = absurd (nz (All-nil (λ c. c ≡ o.zero)))
    roots_below zero (c ∷ cs) xs u nz ds rs = absurd (omega arith)
    roots_below (suc n) (c ∷ cs) [] u nz ds rs = omega arith
    roots_below (suc n) (c ∷ cs) (a ∷ xs) u nz ds rs =
        let R : A → Type 0 = λ e. value_at o (c ∷ cs) e ≡ o.zero in
        let Z : A → Type 0 = λ e. e ≡ o.zero in
        let ra : R a = All-head R a xs rs in
        let others : All (λ e. value_at o (quotient cs a) e ≡ o.zero) xs =
        (λ k d in'. other_root c cs a (get_or xs k d) (ds.0 k d in') ra (All-tail R a xs rs k d in')) in
        let nonzero : ¬ IsZero o (quotient cs a) =
        (λ h. let w = zero_quotient cs a h in
        let first : c ≡ o.zero = sym (l.add_zero c) ∙ ap (o.add c) (sym (mul_zero o l a)) ∙ ap (λ (t : A). o.add c (o.mul a t)) (sym w.1) ∙ ra in
        nz (All-cons Z c cs first w.0)) in
        let lq = length-quotient cs a in
        let below = roots_below n (quotient cs a) xs (omega (arith, lq)) nonzero ds.1 others in
        omega (arith, below, lq)

    pub few_roots : (d : ℕ) (cs : List A) → length cs ≤ d + 1 → ¬ IsZero o cs → HasAtMost d (λ e. value_at o cs e ≡ o.zero)
    few_roots d cs u nz xs ds rs = let b = roots_below (length cs) cs xs (omega arith) nz ds rs in omega (arith, b)

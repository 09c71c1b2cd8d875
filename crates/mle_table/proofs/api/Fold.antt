-- To bind the first coordinate is to fold the table
use Rattle.std.proofs.Common.{◌≡◌, ℕ, zero, suc, ◌+◌, ◌*◌, ◌/◌, ◌%◌, ◌^◌, List, [], ◌∷◌, length, get_or, if◌then◌else◌, ◌==◌, refl, sym, ◌∙◌, ap, ap₂, arith, pow-suc}
use Rattle.field_ext.specs.Ring.{Ops, Laws}
use Rattle.field_ext.proofs.api.Solve.{var, nil, unit, ◌⊕◌, ◌⊗◌, minus, solve}
use Rattle.field_ext.specs.Sums.{sum_below}
use Rattle.field_ext.specs.Multilinear.{eq_poly, extension_at, folded}
use Rattle.mle_table.proofs.api.SumLaws.{sum_below-same, sum_below-pairs}

module _ {A : Type 0} (o : Ops A) (l : Laws A o) where
  pub fold-at : (t : List A) (r : A) (h : ℕ) → get_or (folded o t r) h o.zero ≡ o.add (get_or t (h * 2) o.zero) (o.mul r (o.add (get_or t (h * 2 + 1) o.zero) (o.neg (get_or t (h * 2) o.zero))))
  fold-at [] r h = solve o l (r ∷ []) nil (nil ⊕ var 0 ⊗ (nil ⊕ minus nil)) refl
  fold-at (a ∷ []) r zero = refl
  fold-at (a ∷ []) r (suc h) =
      let e : suc h * 2 ≡ suc (suc (h * 2)) = omega arith in
      let f : suc (suc (h * 2)) + 1 ≡ suc (suc (h * 2 + 1)) = omega arith in
      rw (e, f) (solve o l (r ∷ []) nil (nil ⊕ var 0 ⊗ (nil ⊕ minus nil)) refl)
  fold-at (a ∷ b ∷ t) r zero = refl
  fold-at (a ∷ b ∷ t) r (suc h) =
      let e : suc h * 2 ≡ suc (suc (h * 2)) = omega arith in
      let f : suc (suc (h * 2)) + 1 ≡ suc (suc (h * 2 + 1)) = omega arith in
      rw (e, f) (fold-at t r h)

  pub eq-even : (u : A) (us : List A) (h : ℕ) → eq_poly o (u ∷ us) (h * 2) ≡ o.mul (o.add o.one (o.neg u)) (eq_poly o us h)
  eq-even u us h = let m : h * 2 % 2 ≡ 0 = omega arith in let d : h * 2 / 2 ≡ h = omega arith in ap₂ (λ (b k : ℕ). o.mul (if b == 1 then u else o.add o.one (o.neg u)) (eq_poly o us k)) m d

  pub eq-odd : (u : A) (us : List A) (h : ℕ) → eq_poly o (u ∷ us) (h * 2 + 1) ≡ o.mul u (eq_poly o us h)
  eq-odd u us h = let m : (h * 2 + 1) % 2 ≡ 1 = omega arith in let d : (h * 2 + 1) / 2 ≡ h = omega arith in ap₂ (λ (b k : ℕ). o.mul (if b == 1 then u else o.add o.one (o.neg u)) (eq_poly o us k)) m d

  pub fold_law : (t us : List A) (r : A) → extension_at o o (λ x. x) (folded o t r) us ≡ extension_at o o (λ x. x) t (r ∷ us)
  fold_law t us r =
      sym (
      ap (λ (n : ℕ). sum_below o n (λ g. o.mul (get_or t g o.zero) (eq_poly o (r ∷ us) g))) (pow-suc 2 (length us))
      ∙ sum_below-pairs o l (2 ^ length us) (λ g. o.mul (get_or t g o.zero) (eq_poly o (r ∷ us) g))
      ∙ sum_below-same o l (2 ^ length us) _ _ (λ h u.
      ap₂ o.add (ap (o.mul (get_or t (h * 2) o.zero)) (eq-even r us h)) (ap (o.mul (get_or t (h * 2 + 1) o.zero)) (eq-odd r us h))
      ∙ solve o l (get_or t (h * 2) o.zero ∷ get_or t (h * 2 + 1) o.zero ∷ r ∷ eq_poly o us h ∷ [])
      (var 0 ⊗ ((unit ⊕ minus (var 2)) ⊗ var 3) ⊕ var 1 ⊗ (var 2 ⊗ var 3))
      ((var 0 ⊕ var 2 ⊗ (var 1 ⊕ minus (var 0))) ⊗ var 3) refl
      ∙ ap (λ (x : A). o.mul x (eq_poly o us h)) (sym (fold-at t r h)))
      )

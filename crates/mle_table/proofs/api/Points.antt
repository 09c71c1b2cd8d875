-- At Boolean coordinates Eq picks one point, and the extension is the table
use Rattle.std.proofs.Common.{◌≡◌, ℕ, zero, suc, ◌+◌, ◌*◌, ◌/◌, ◌%◌, ◌^◌, ◌<◌, ◌⊎◌, inl, inr, List, [], ◌∷◌, ◌++◌, get_or, Bool, true, false, if◌then◌else◌, ◌==◌, refl, sym, ◌∙◌, ap, ap₂, arith, pow-suc, mod-lt}
use Rattle.std.proofs.Math.Nat.{div-add-mod}
use Rattle.std.proofs.lemmas.Bool.{cases_eq}
use Rattle.field_ext.specs.Ring.{Ops, Laws}
use Rattle.field_ext.proofs.api.Solve.{var, nil, unit, ◌⊕◌, ◌⊗◌, minus, solve}
use Rattle.field_ext.proofs.api.Rings.{zero_add, one_mul}
use Rattle.field_ext.specs.Sums.{sum_cube}
use Rattle.field_ext.specs.Multilinear.{eq_poly, extension_at, folded, bits_of, folded_all}
use Rattle.mle_table.proofs.api.SumLaws.{sum_cube-same, sum_cube-zero}
use Rattle.mle_table.proofs.api.Fold.{fold-at, fold_law}

module _ {A : Type 0} (o : Ops A) (l : Laws A o) where
  -- of all Boolean points, Eq picks the one of the number's bits
  pub sum-eq : (n u : ℕ) (h : List A → A) → sum_cube o n (λ w. o.mul (eq_poly o w u) (h w)) ≡ h (bits_of o n u)
  sum-eq zero u h = one_mul o l (h [])
  sum-eq (suc n) u h = by_bit (u % 2 == 1) (sum-eq n (u / 2))
    where
      by_bit : (b : Bool) → ((h : List A → A) → sum_cube o n (λ w. o.mul (eq_poly o w (u / 2)) (h w)) ≡ h (bits_of o n (u / 2))) →
          o.add (sum_cube o n (λ w. o.mul (o.mul (if b then o.zero else o.add o.one (o.neg o.zero)) (eq_poly o w (u / 2))) (h (o.zero ∷ w))))
          (sum_cube o n (λ w. o.mul (o.mul (if b then o.one else o.add o.one (o.neg o.one)) (eq_poly o w (u / 2))) (h (o.one ∷ w))))
          ≡ h ((if b then o.one else o.zero) ∷ bits_of o n (u / 2))
      by_bit true rest =
          ap₂ o.add
          (sum_cube-same o l n _ (λ w. o.zero) (λ w. solve o l (eq_poly o w (u / 2) ∷ h (o.zero ∷ w) ∷ []) (nil ⊗ var 0 ⊗ var 1) nil refl) ∙ sum_cube-zero o l n)
          (sum_cube-same o l n _ (λ w. o.mul (eq_poly o w (u / 2)) (h (o.one ∷ w))) (λ w. solve o l (eq_poly o w (u / 2) ∷ h (o.one ∷ w) ∷ []) (unit ⊗ var 0 ⊗ var 1) (var 0 ⊗ var 1) refl) ∙ rest (λ w. h (o.one ∷ w)))
          ∙ zero_add o l _
      by_bit false rest =
          ap₂ o.add
          (sum_cube-same o l n _ (λ w. o.mul (eq_poly o w (u / 2)) (h (o.zero ∷ w))) (λ w. solve o l (eq_poly o w (u / 2) ∷ h (o.zero ∷ w) ∷ []) ((unit ⊕ minus nil) ⊗ var 0 ⊗ var 1) (var 0 ⊗ var 1) refl) ∙ rest (λ w. h (o.zero ∷ w)))
          (sum_cube-same o l n _ (λ w. o.zero) (λ w. solve o l (eq_poly o w (u / 2) ∷ h (o.one ∷ w) ∷ []) ((unit ⊕ minus unit) ⊗ var 0 ⊗ var 1) nil refl) ∙ sum_cube-zero o l n)
          ∙ l.add_zero _

  -- coordinates are bound by folding
  pub ext-folded_all : (t rs us : List A) → extension_at o o (λ x. x) (folded_all o t rs) us ≡ extension_at o o (λ x. x) t (rs ++ us)
  ext-folded_all t [] us = refl
  ext-folded_all t (r ∷ rs) us = ext-folded_all (folded o t r) rs us ∙ fold_law o l t (rs ++ us) r

  pub ext-nil : (t : List A) → extension_at o o (λ x. x) t [] ≡ get_or t 0 o.zero
  ext-nil t = zero_add o l (o.mul (get_or t 0 o.zero) o.one) ∙ l.mul_one (get_or t 0 o.zero)

  pub ext-bits : (n u : ℕ) (t : List A) → u < 2 ^ n → extension_at o o (λ x. x) t (bits_of o n u) ≡ get_or t u o.zero
  ext-bits zero u t h = let e : 0 ≡ u = omega arith in ext-nil t ∙ ap (λ (k : ℕ). get_or t k o.zero) e
  ext-bits (suc n) u t h =
      let s = pow-suc 2 n in
      let d = div-add-mod u 2 in
      sym (fold_law o l t (bits_of o n (u / 2)) (if u % 2 == 1 then o.one else o.zero))
      ∙ ext-bits n (u / 2) (folded o t (if u % 2 == 1 then o.one else o.zero)) (omega (arith, s))
      ∙ fold-at o l t (if u % 2 == 1 then o.one else o.zero) (u / 2)
      ∙ picked (cases_eq (u % 2) 1)
    where
      picked : (u % 2 ≡ 1) ⊎ (u % 2 ≡ 1 → ⊥) →
          o.add (get_or t (u / 2 * 2) o.zero) (o.mul (if u % 2 == 1 then o.one else o.zero) (o.add (get_or t (u / 2 * 2 + 1) o.zero) (o.neg (get_or t (u / 2 * 2) o.zero)))) ≡ get_or t u o.zero
      picked (inl e) =
          let i : u / 2 * 2 + 1 ≡ u = omega (arith, div-add-mod u 2) in
          ap (λ (k : ℕ). o.add (get_or t (u / 2 * 2) o.zero) (o.mul (if k == 1 then o.one else o.zero) (o.add (get_or t (u / 2 * 2 + 1) o.zero) (o.neg (get_or t (u / 2 * 2) o.zero))))) e
          ∙ solve o l (get_or t (u / 2 * 2) o.zero ∷ get_or t (u / 2 * 2 + 1) o.zero ∷ []) (var 0 ⊕ unit ⊗ (var 1 ⊕ minus (var 0))) (var 1) refl
          ∙ ap (λ (k : ℕ). get_or t k o.zero) i
      picked (inr n) =
          let z : u % 2 ≡ 0 = let m : u % 2 < 2 = mod-lt u (omega arith) in omega (arith, m, n) in
          let i : u / 2 * 2 ≡ u = omega (arith, div-add-mod u 2) in
          ap (λ (k : ℕ). o.add (get_or t (u / 2 * 2) o.zero) (o.mul (if k == 1 then o.one else o.zero) (o.add (get_or t (u / 2 * 2 + 1) o.zero) (o.neg (get_or t (u / 2 * 2) o.zero))))) z
          ∙ solve o l (get_or t (u / 2 * 2) o.zero ∷ get_or t (u / 2 * 2 + 1) o.zero ∷ []) (var 0 ⊕ nil ⊗ (var 1 ⊕ minus (var 0))) (var 0) refl
          ∙ ap (λ (k : ℕ). get_or t k o.zero) i

-- Two tables that differ have different values at the output point, or a coordinate is exceptional; and few are
use Rattle.std.proofs.Common.{◌≡◌, ℕ, zero, suc, ◌^◌, ◌<◌, ◌≤◌, ◌⊎◌, inl, inr, List, [], ◌∷◌, length, take, get_or, All, refl, sym, ◌∙◌, ap, ap₂, arith, pow-suc}
use Rattle.std.proofs.lemmas.List.Elements.{All-head, All-tail, All-cons, All-nil}
use Rattle.field_ext.specs.Ring.{Ops, Laws}
use Rattle.field_ext.specs.Polynomial.{IsZero, Distinct, HasAtMost}
use Rattle.field_ext.specs.Sums.{sum_below}
use Rattle.field_ext.specs.Multilinear.{eq_poly, extension_at, folded, folded_all}
use Rattle.gkr_layers.specs.Sumcheck.{difference, IsExceptionalFold}
use Rattle.field_ext.proofs.api.Rings.{zero_add, add_cancel}
use Rattle.field_ext.proofs.api.Solve.{var, nil, ◌⊕◌, ◌⊗◌, minus, solve}
use Rattle.poly_roots.proofs.api.Roots.{few_roots}
use Rattle.mle_table.proofs.api.Fold.{fold_law}
use Rattle.mle_table.proofs.api.Points.{ext-nil}
use Rattle.mle_table.proofs.api.Steps.{length-fold}

module _ {A : Type 0} (o : Ops A) (l : Laws A o) (same : (x y : A) → (x ≡ y) ⊎ (x ≡ y → ⊥)) where
  abbrev Z : A → Type 0
  Z x = x ≡ o.zero

  all_zero? : (t : List A) → IsZero o t ⊎ (IsZero o t → ⊥)
  all_zero? [] = inl (All-nil Z)
  all_zero? (x ∷ t) =
      elim (same x o.zero) [
        | inl e ↦ elim (all_zero? t) [ inl h ↦ inl (All-cons Z x t e h) | inr n ↦ inr (λ h. n (All-tail Z x t h)) ]
        | inr n ↦ inr (λ h. n (All-head Z x t h))
      ]

  pub sound_output : (zs d : List A) → length d ≡ 2 ^ length zs → ¬ IsZero o d →
      ((extension_at o o (λ x. x) d zs ≡ o.zero) → ⊥) ⊎ ((n : ℕ) × (n < length zs) × IsExceptionalFold o d (take n zs) (get_or zs n o.zero))
  sound_output [] [] s nz = absurd (omega arith)
  sound_output [] (x ∷ y ∷ d) s nz = absurd (omega arith)
  sound_output [] (x ∷ []) s nz = inl (λ e. nz (All-cons Z x [] (sym (ext-nil o l (x ∷ [])) ∙ e) (All-nil Z)))
  sound_output (z ∷ zs) d s nz =
      elim (all_zero? (folded o d z)) [
        | inl h ↦ inr (0, omega arith, (nz, h))
        | inr n ↦
            elim (sound_output zs (folded o d z) (length-fold o l d z (2 ^ length zs) (s ∙ pow-suc 2 (length zs))) n) [
              | inl m ↦ inl (λ e. m (fold_law o l d zs z ∙ e))
              | inr w ↦ inr (suc w.0, more (w.1), w.2)
            ]
      ]
    where
      more : {m n : ℕ} → m < n → suc m < suc n
      more h = omega arith

  pub get_or-difference : (ys vs : List A) (g : ℕ) → length ys ≡ length vs → o.add (get_or (difference o ys vs) g o.zero) (get_or vs g o.zero) ≡ get_or ys g o.zero
  get_or-difference [] [] g s = l.add_zero o.zero
  get_or-difference [] (v ∷ vs) g s = absurd (omega arith)
  get_or-difference (y ∷ ys) [] g s = absurd (omega arith)
  get_or-difference (y ∷ ys) (v ∷ vs) zero s = solve o l (y ∷ v ∷ []) (var 0 ⊕ minus (var 1) ⊕ var 1) (var 0) refl
  get_or-difference (y ∷ ys) (v ∷ vs) (suc g) s = get_or-difference ys vs g (omega arith)

  sum-difference : (n : ℕ) (f h k e : ℕ → A) → ((g : ℕ) → o.add (f g) (h g) ≡ k g) →
      o.add (sum_below o n (λ g. o.mul (f g) (e g))) (sum_below o n (λ g. o.mul (h g) (e g))) ≡ sum_below o n (λ g. o.mul (k g) (e g))
  sum-difference zero f h k e q = l.add_zero o.zero
  sum-difference (suc n) f h k e q =
      solve o l (sum_below o n (λ g. o.mul (f g) (e g)) ∷ f n ∷ e n ∷ sum_below o n (λ g. o.mul (h g) (e g)) ∷ h n ∷ [])
      (var 0 ⊕ var 1 ⊗ var 2 ⊕ (var 3 ⊕ var 4 ⊗ var 2)) (var 0 ⊕ var 3 ⊕ (var 1 ⊕ var 4) ⊗ var 2) refl
      ∙ ap₂ (λ (x y : A). o.add x (o.mul y (e n))) (sum-difference n f h k e q) (q n)

  pub ext-difference : (ys vs us : List A) → length ys ≡ length vs → extension_at o o (λ x. x) ys us ≡ extension_at o o (λ x. x) vs us → extension_at o o (λ x. x) (difference o ys vs) us ≡ o.zero
  ext-difference ys vs us s e =
      add_cancel o l (extension_at o o (λ x. x) (difference o ys vs) us) o.zero (extension_at o o (λ x. x) vs us)
      (sum-difference (2 ^ length us) (λ g. get_or (difference o ys vs) g o.zero) (λ g. get_or vs g o.zero) (λ g. get_or ys g o.zero) (eq_poly o us) (λ g. get_or-difference ys vs g s)
      ∙ e ∙ sym (zero_add o l (extension_at o o (λ x. x) vs us)))

  module _ (domain : (x y : A) → o.mul x y ≡ o.zero → (x ≡ o.zero) ⊎ (y ≡ o.zero)) where
    few_fold : (t xs : List A) → Distinct xs → All (λ v. IsZero o (folded o t v)) xs → ¬ IsZero o t → length xs ≤ 1
    few_fold [] xs ds zs nz = absurd (nz (All-nil Z))
    few_fold (a ∷ []) xs ds zs nz =
        few_roots o l domain 1 (a ∷ o.neg a ∷ []) (omega arith) (λ h. nz (All-cons Z a [] (All-head Z a (o.neg a ∷ []) h) (All-nil Z))) xs ds
        (λ k d in'. solve o l (a ∷ get_or xs k d ∷ []) (var 0 ⊕ var 1 ⊗ (minus (var 0) ⊕ var 1 ⊗ nil)) (var 0 ⊕ var 1 ⊗ (nil ⊕ minus (var 0))) refl ∙ All-head Z _ [] (zs k d in'))
    few_fold (a ∷ b ∷ t) xs ds zs nz =
        elim (all_zero? (a ∷ b ∷ [])) [
          | inl h ↦
              few_fold t xs ds (λ k d in'. All-tail Z _ (folded o t (get_or xs k d)) (zs k d in'))
              (λ h'. nz (All-cons Z a (b ∷ t) (All-head Z a (b ∷ []) h) (All-cons Z b t (All-head Z b [] (All-tail Z a (b ∷ []) h)) h')))
          | inr n ↦
              few_roots o l domain 1 (a ∷ o.add b (o.neg a) ∷ []) (omega arith)
              (λ h. let za : a ≡ o.zero = All-head Z a (o.add b (o.neg a) ∷ []) h in
              let zb : o.add b (o.neg a) ≡ o.zero = All-head Z (o.add b (o.neg a)) [] (All-tail Z a (o.add b (o.neg a) ∷ []) h) in
              n (All-cons Z a (b ∷ []) za (All-cons Z b [] (add_cancel o l b o.zero (o.neg a) (zb ∙ sym (ap (λ (x : A). o.add o.zero x) (ap o.neg za) ∙ solve o l [] (nil ⊕ minus nil) nil refl))) (All-nil Z))))
              xs ds
              (λ k d in'. solve o l (a ∷ b ∷ get_or xs k d ∷ []) (var 0 ⊕ var 2 ⊗ ((var 1 ⊕ minus (var 0)) ⊕ var 2 ⊗ nil)) (var 0 ⊕ var 2 ⊗ (var 1 ⊕ minus (var 0))) refl
              ∙ All-head Z _ (folded o t (get_or xs k d)) (zs k d in'))
        ]

    pub few_output : (d before : List A) → HasAtMost 1 (IsExceptionalFold o d before)
    few_output d before [] ds es = omega arith
    few_output d before (x ∷ xs) ds es =
        few_fold (folded_all o d before) (x ∷ xs) ds (λ k y in'. (es k y in').1) (All-head (IsExceptionalFold o d before) x xs es).0

-- Tables that stand for a function, through a round
use Rattle.std.proofs.Common.{◌≡◌, ℕ, zero, suc, ◌/◌, ◌^◌, ◌<◌, List, [], ◌∷◌, length, get_or, refl, sym, ◌∙◌, ap, ap₂}
use Rattle.field_ext.specs.Ring.{Ops, Laws}
use Rattle.field_ext.proofs.api.Solve.{Expr, var, nil, ◌⊕◌, ◌⊗◌, minus, solve}
use Rattle.field_ext.specs.Multilinear.{eq_poly, extension_at, bits_of, folded}
use Rattle.mle_table.proofs.api.SumLaws.{sum_below-same}
use Rattle.mle_table.proofs.api.Fold.{fold_law}
use Rattle.mle_table.proofs.api.Points.{ext-bits}
use Rattle.table_parts.specs.Tables.{IsFolded, pair_at, quadratic_at, StandFor}

module _ {A : Type 0} (o : Ops A) (l : Laws A o) where
  -- an extension reads no value past the last point
  pub ext-agrees : (t t' us : List A) → ((j : ℕ) → j < 2 ^ length us → get_or t j o.zero ≡ get_or t' j o.zero) → extension_at o o (λ x. x) t us ≡ extension_at o o (λ x. x) t' us
  ext-agrees t t' us e = sum_below-same o l (2 ^ length us) _ _ (λ j u. ap (λ (x : A). o.mul x (eq_poly o us j)) (e j u))

  pub ext-folded : (n : ℕ) (t t' : List A) (r : A) (w : List A) → length w ≡ n → IsFolded o (2 ^ n) t r t' → extension_at o o (λ x. x) t' w ≡ extension_at o o (λ x. x) t (r ∷ w)
  ext-folded n t t' r w e is =
      let m : 2 ^ length w ≡ 2 ^ n = ap (λ (i : ℕ). 2 ^ i) e in
      ext-agrees t' (folded o t r) w (λ j u. is j (rw (← m) u)) ∙ fold_law o l t w r

  length-bits : (n h : ℕ) → length (bits_of o n h) ≡ n
  length-bits zero h = refl
  length-bits (suc n) h = ap (λ (i : ℕ). suc i) (length-bits n (h / 2))

  ext-pair : (n h : ℕ) (t : List A) (e : A) → h < 2 ^ n → extension_at o o (λ x. x) t (e ∷ bits_of o n h) ≡ get_or (folded o t e) h o.zero
  ext-pair n h t e u = sym (fold_law o l t (bits_of o n h) e) ∙ ext-bits o l n h (folded o t e) u

  -- at a Boolean point after e the function is one pair's value
  pub stand-pair : (n : ℕ) (f : List A → A) (t scales shifts : List A) (e : A) (h : ℕ) → StandFor o (suc n) f t scales shifts → h < 2 ^ n →
      f (e ∷ bits_of o n h) ≡ pair_at o t scales shifts e h
  stand-pair n f t scales shifts e h stand u =
      stand (e ∷ bits_of o n h) (ap (λ (i : ℕ). suc i) (length-bits n h))
      ∙ ap₂ o.add (ap₂ o.mul (ext-pair n h t e u) (ext-pair n h scales e u)) (ext-pair n h shifts e u)

  -- to fold the tables is to bind a coordinate
  pub stand-folded : (n : ℕ) (f : List A → A) (t scales shifts t' scales' shifts' : List A) (r : A) → StandFor o (suc n) f t scales shifts →
      IsFolded o (2 ^ n) t r t' → IsFolded o (2 ^ n) scales r scales' → IsFolded o (2 ^ n) shifts r shifts' → StandFor o n (λ w. f (r ∷ w)) t' scales' shifts'
  stand-folded n f t scales shifts t' scales' shifts' r stand ft fs fh w e =
      stand (r ∷ w) (ap (λ (i : ℕ). suc i) e)
      ∙ sym (ap₂ o.add (ap₂ o.mul (ext-folded n t t' r w e ft) (ext-folded n scales scales' r w e fs)) (ext-folded n shifts shifts' r w e fh))

  -- one pair's values at 0 and 1 and its square coefficient give its value at e
  pub pair-quadratic : (t0 t1 s0 s1 h0 h1 e : A) →
      quadratic_at o (o.add (o.mul t0 s0) h0) (o.add (o.mul t1 s1) h1) (o.mul (o.add t1 (o.neg t0)) (o.add s1 (o.neg s0))) e
      ≡ o.add (o.mul (o.add t0 (o.mul e (o.add t1 (o.neg t0)))) (o.add s0 (o.mul e (o.add s1 (o.neg s0))))) (o.add h0 (o.mul e (o.add h1 (o.neg h0))))
  pair-quadratic t0 t1 s0 s1 h0 h1 e =
      let z : Expr = var 0 ⊗ var 2 ⊕ var 4 in
      let w : Expr = var 1 ⊗ var 3 ⊕ var 5 in
      let q : Expr = (var 1 ⊕ minus (var 0)) ⊗ (var 3 ⊕ minus (var 2)) in
      solve o l (t0 ∷ t1 ∷ s0 ∷ s1 ∷ h0 ∷ h1 ∷ e ∷ [])
      (z ⊕ var 6 ⊗ (w ⊕ minus (z ⊕ q) ⊕ var 6 ⊗ (q ⊕ var 6 ⊗ nil)))
      ((var 0 ⊕ var 6 ⊗ (var 1 ⊕ minus (var 0))) ⊗ (var 2 ⊕ var 6 ⊗ (var 3 ⊕ minus (var 2))) ⊕ (var 4 ⊕ var 6 ⊗ (var 5 ⊕ minus (var 4)))) refl

  pub quadratic-add : (z w q z' w' q' e : A) → quadratic_at o (o.add z z') (o.add w w') (o.add q q') e ≡ o.add (quadratic_at o z w q e) (quadratic_at o z' w' q' e)
  quadratic-add z w q z' w' q' e =
      solve o l (z ∷ w ∷ q ∷ z' ∷ w' ∷ q' ∷ e ∷ [])
      ((var 0 ⊕ var 3) ⊕ var 6 ⊗ ((var 1 ⊕ var 4) ⊕ minus ((var 0 ⊕ var 3) ⊕ (var 2 ⊕ var 5)) ⊕ var 6 ⊗ ((var 2 ⊕ var 5) ⊕ var 6 ⊗ nil)))
      ((var 0 ⊕ var 6 ⊗ (var 1 ⊕ minus (var 0 ⊕ var 2) ⊕ var 6 ⊗ (var 2 ⊕ var 6 ⊗ nil))) ⊕ (var 3 ⊕ var 6 ⊗ (var 4 ⊕ minus (var 3 ⊕ var 5) ⊕ var 6 ⊗ (var 5 ⊕ var 6 ⊗ nil)))) refl

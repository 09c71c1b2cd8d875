-- A false claim stays false through the rounds, or some challenge is exceptional; and few challenges are
use Rattle.std.proofs.Common.{◌≡◌, ℕ, zero, suc, ◌+◌, ◌≤◌, ◌⊎◌, inl, inr, List, [], ◌∷◌, ◌++◌, map, length, get_or, refl, sym, ◌∙◌, ap, ap₂, arith, append_assoc}
use Rattle.std.proofs.lemmas.List.{length-map, get_or_past}
use Rattle.std.proofs.lemmas.List.Elements.{All-head}
use Rattle.std.proofs.lemmas.Bool.{cases_lt}
use Rattle.field_ext.specs.Ring.{Ops, Laws}
use Rattle.field_ext.specs.Polynomial.{value_at, sum_of, IsZero, SamePolynomial, HasAtMost}
use Rattle.field_ext.specs.Sums.{sum_cube}
use Rattle.gkr_layers.specs.Sumcheck.{RoundsHold, IsExceptionalFor}
use Rattle.field_ext.proofs.api.Rings.{mul_zero, neg-zero, add_cancel, zero_add}
use Rattle.poly_roots.proofs.api.Values.{value-sum}
use Rattle.poly_roots.proofs.api.Roots.{few_roots}
use Rattle.mle_table.proofs.api.SumLaws.{sum_cube-same}
use Rattle.gkr_layers.proofs.api.RoundPoly.{value-neg}

module _ {A : Type 0} (o : Ops A) where
  pub length-sum : (p q : List A) (n : ℕ) → length p ≤ n → length q ≤ n → length (sum_of o p q) ≤ n
  length-sum [] q n u v = v
  length-sum (c ∷ cs) [] n u v = u
  length-sum (c ∷ cs) (d ∷ ds) zero u v = absurd (omega arith)
  length-sum (c ∷ cs) (d ∷ ds) (suc n) u v = let h : length (sum_of o cs ds) ≤ n = length-sum cs ds n (omega arith) (omega arith) in omega arith

module _ {A : Type 0} (o : Ops A) (l : Laws A o) where
  pub value-same : (p q : List A) (e : A) → SamePolynomial o p q → value_at o p e ≡ value_at o q e
  value-same [] [] e s = refl
  value-same [] (d ∷ ds) e s =
      sym (ap₂ (λ (x y : A). o.add x (o.mul e y)) (sym (s 0)) (sym (value-same [] ds e (λ j. s (suc j)))) ∙ zero_add o l (o.mul e o.zero) ∙ mul_zero o l e)
  value-same (c ∷ cs) [] e s =
      ap₂ (λ (x y : A). o.add x (o.mul e y)) (s 0) (value-same cs [] e (λ j. s (suc j))) ∙ zero_add o l (o.mul e o.zero) ∙ mul_zero o l e
  value-same (c ∷ cs) (d ∷ ds) e s = ap₂ (λ (x y : A). o.add x (o.mul e y)) (s 0) (value-same cs ds e (λ j. s (suc j)))

  get_or-sum : (p q : List A) (j : ℕ) → get_or (sum_of o p q) j o.zero ≡ o.add (get_or p j o.zero) (get_or q j o.zero)
  get_or-sum [] q j = sym (zero_add o l (get_or q j o.zero))
  get_or-sum (c ∷ cs) [] j = sym (l.add_zero (get_or (c ∷ cs) j o.zero))
  get_or-sum (c ∷ cs) (d ∷ ds) zero = refl
  get_or-sum (c ∷ cs) (d ∷ ds) (suc j) = get_or-sum cs ds j

  get_or-neg : (p : List A) (j : ℕ) → get_or (map o.neg p) j o.zero ≡ o.neg (get_or p j o.zero)
  get_or-neg [] j = sym (neg-zero o l)
  get_or-neg (c ∷ cs) zero = refl
  get_or-neg (c ∷ cs) (suc j) = get_or-neg cs j

  module _ (domain : (x y : A) → o.mul x y ≡ o.zero → (x ≡ o.zero) ⊎ (y ≡ o.zero)) where
    -- no more than the degree's number of exceptional challenges
    pub few_exceptional : (d : ℕ) (q r : List A) → length q ≤ d + 1 → length r ≤ d + 1 → HasAtMost d (IsExceptionalFor o q r)
    few_exceptional d q r u v [] ds es = omega arith
    few_exceptional d q r u v (x ∷ xs) ds es =
        let differ : ¬ SamePolynomial o q r = (All-head (IsExceptionalFor o q r) x xs es).0 in
        let diff : List A = sum_of o q (map o.neg r) in
        let lr = length-map r o.neg in
        few_roots o l domain d diff (length-sum o q (map o.neg r) (d + 1) u (omega (arith, v, lr)))
        (λ z. differ (λ j.
        add_cancel o l (get_or q j o.zero) (get_or r j o.zero) (o.neg (get_or r j o.zero))
        (ap (o.add (get_or q j o.zero)) (sym (get_or-neg r j)) ∙ sym (get_or-sum q (map o.neg r) j) ∙ all_zero diff z j ∙ sym (l.add_neg (get_or r j o.zero)))))
        (x ∷ xs) ds (λ k y in'. let e = (es k y in').1 in
        value-sum o l q (map o.neg r) _ ∙ ap₂ o.add e (value-neg o l r _) ∙ l.add_neg _)
      where
        all_zero : (p : List A) → IsZero o p → (j : ℕ) → get_or p j o.zero ≡ o.zero
        all_zero p z j = elim (cases_lt j (length p)) [ inl h ↦ z j o.zero h | inr g ↦ get_or_past p j o.zero g ]

  module _ (same : (x y : A) → (x ≡ y) ⊎ (x ≡ y → ⊥)) (f : List A → A) (r_of : List A → ℕ → List A)
      (r_value : (bound : List A) (n : ℕ) (e : A) → value_at o (r_of bound n) e ≡ sum_cube o n (λ w. f (bound ++ e ∷ w))) where
    abbrev pub SomeExceptional : List A → List (List A) → List A → Type 0
    SomeExceptional bound [] rs = ⊥
    SomeExceptional bound (q ∷ qs) [] = ⊥
    SomeExceptional bound (q ∷ qs) (r ∷ rs) = IsExceptionalFor o q (r_of bound (length qs)) r ⊎ SomeExceptional (bound ++ r ∷ []) qs rs

    -- the true polynomial's values at 0 and at 1 add to the true sum
    pub true_sum : (bound : List A) (n : ℕ) → o.add (value_at o (r_of bound n) o.zero) (value_at o (r_of bound n) o.one) ≡ sum_cube o (suc n) (λ w. f (bound ++ w))
    true_sum bound n = ap₂ o.add (r_value bound n o.zero) (r_value bound n o.one)

    pub sound_rounds : (qs : List (List A)) (rs bound : List A) (claim last : A) → RoundsHold o claim qs rs last →
        ((claim ≡ sum_cube o (length qs) (λ w. f (bound ++ w))) → ⊥) → ((last ≡ f (bound ++ rs)) → ⊥) ⊎ SomeExceptional bound qs rs
    sound_rounds [] [] bound claim last h false' = inl (λ e. false' (h ∙ e))
    sound_rounds [] (r ∷ rs) bound claim last h false' = absurd h
    sound_rounds (q ∷ qs) [] bound claim last h false' = absurd h
    sound_rounds (q ∷ qs) (r ∷ rs) bound claim last h false' =
        let n : ℕ = length qs in
        let t : List A = r_of bound n in
        let differ : ¬ SamePolynomial o q t = (λ s. false' (sym h.0 ∙ ap₂ o.add (value-same q t o.zero s) (value-same q t o.one s) ∙ true_sum bound n)) in
        elim (same (value_at o q r) (value_at o t r)) [
          | inl e ↦ inr (inl (differ, e))
          | inr ne ↦
              let next : (value_at o q r ≡ sum_cube o n (λ w. f ((bound ++ r ∷ []) ++ w))) → ⊥ =
              (λ e. ne (e ∙ sum_cube-same o l n _ _ (λ w. ap f (append_assoc bound (r ∷ []) w)) ∙ sym (r_value bound n r))) in
              elim (sound_rounds qs rs (bound ++ r ∷ []) (value_at o q r) last h.1 next) [
                | inl m ↦ inl (λ e. m (e ∙ sym (ap f (append_assoc bound (r ∷ []) rs))))
                | inr m ↦ inr (inr m)
              ]
        ]

-- The extension of a layer's values at the place of a claim is the sum of its summand over all Boolean points, and a true round
-- polynomial's value is the sum with it in the variable's place
use Rattle.std.proofs.Common.{◌≡◌, ℕ, ◌+◌, ◌^◌, List, [], ◌∷◌, ◌++◌, map, length, take, drop, All, refl, sym, ◌∙◌, ap, ap₂}
use Rattle.std.proofs.lemmas.List.{take-map, drop-map}
use Rattle.field_ext.specs.Ring.{Ops, Laws}
use Rattle.field_ext.specs.Polynomial.{value_at, polynomial_ops, constant}
use Rattle.field_ext.specs.Sums.{sum_cube}
use Rattle.field_ext.specs.Multilinear.{extension_at}
use Rattle.field_ext.proofs.api.Solve.{var, ◌⊕◌, ◌⊗◌, solve}
use Rattle.circuit_core.specs.declared.gate.CircuitGate.{CircuitGate}
use Rattle.circuit_core.specs.Parts as parts
use Rattle.wiring_poly.specs.Wiring.{wiring_add, wiring_mul, summand_from, summand_at, values_above}
use Rattle.mle_table.proofs.api.SumLaws.{sum_cube-same, sum_cube-add, sum_cube-scale}
use Rattle.wiring_poly.proofs.api.Identity.{layer_sum}
use Rattle.wiring_poly.proofs.api.Hom.{IsHom, extension_at-hom, wiring_add-hom, wiring_mul-hom, sum_cube-hom}
use Rattle.gkr_layers.proofs.api.RoundPoly.{value_hom, value-constant, at_point, constants}
use Rattle.gkr_layers.specs.Places.{Place, IsOver, map_place, weighted, value_over, weighted_summand_from, weighted_summand, weighted_summand_at}
use Rattle.gkr_layers.specs.Sumcheck.{round_polynomial}
use Rattle.gkr_layers.specs.Places.Place.{At, AtBoth}

module _ {A : Type 0} (o : Ops A) (l : Laws A o) where
  -- the summand is the weighted sum of those at the points
  pub weighted_linear : (gates : List CircuitGate) (place : Place A) (b c : List A) (x y : A) →
      weighted_summand_from o gates place b c x y ≡ weighted o place (λ z. summand_from o gates z b c x y)
  weighted_linear gates (At z) b c x y = refl
  weighted_linear gates (AtBoth z z' a) b c x y =
      solve o l (wiring_add o gates z b c ∷ wiring_add o gates z' b c ∷ wiring_mul o gates z b c ∷ wiring_mul o gates z' b c ∷ a ∷ o.add x y ∷ o.mul x y ∷ [])
      ((var 0 ⊕ var 4 ⊗ var 1) ⊗ var 5 ⊕ (var 2 ⊕ var 4 ⊗ var 3) ⊗ var 6)
      ((var 0 ⊗ var 5 ⊕ var 2 ⊗ var 6) ⊕ var 4 ⊗ (var 1 ⊗ var 5 ⊕ var 3 ⊗ var 6)) refl

  pub place_sum : (n : ℕ) (gates : List CircuitGate) (t : List A) (j : ℕ) (place : Place A) → IsOver j place → length gates ≡ 2 ^ j → All (parts.IsOver (2 ^ n)) gates →
      value_over o (values_above o gates t) place ≡ sum_cube o (n + n) (weighted_summand_at o o (λ x. x) n gates t place)
  place_sum n gates t j (At z) size many below = layer_sum o l n gates t z (many ∙ ap (λ (i : ℕ). 2 ^ i) (sym size)) below
  place_sum n gates t j (AtBoth z z' a) size many below =
      let V : List A → A = extension_at o o (λ x. x) t in
      ap₂ (λ (x y : A). o.add x (o.mul a y)) (layer_sum o l n gates t z (many ∙ ap (λ (i : ℕ). 2 ^ i) (sym size.0)) below) (layer_sum o l n gates t z' (many ∙ ap (λ (i : ℕ). 2 ^ i) (sym size.1)) below)
      ∙ ap (o.add (sum_cube o (n + n) (summand_at o o (λ x. x) n gates t z))) (sym (sum_cube-scale o l (n + n) a (summand_at o o (λ x. x) n gates t z')))
      ∙ sym (sum_cube-add o l (n + n) (summand_at o o (λ x. x) n gates t z) (λ w. o.mul a (summand_at o o (λ x. x) n gates t z' w)))
      ∙ sum_cube-same o l (n + n) _ _ (λ w. sym (weighted_linear gates (AtBoth z z' a) (take n w) (drop n w) (V (take n w)) (V (drop n w))))

module _ {A B : Type 0} (o : Ops A) (p : Ops B) (h : A → B) (m : IsHom o p h) where
  pub weighted-hom : (place : Place A) (f : List A → A) (g : List B → B) → ((z : List A) → h (f z) ≡ g (map h z)) → h (weighted o place f) ≡ weighted p (map_place h place) g
  weighted-hom (At z) f g e = e z
  weighted-hom (AtBoth b c a) f g e = m.add _ _ ∙ ap₂ p.add (e b) (m.mul _ _ ∙ ap (p.mul (h a)) (e c))

  pub weighted_summand-hom : {C : Type 0} (base : Ops C) (e : C → A) (gates : List CircuitGate) (t : List C) (place : Place A) (b c : List A) →
      h (weighted_summand o base e gates t place b c) ≡ weighted_summand p base (λ x. h (e x)) gates t (map_place h place) (map h b) (map h c)
  weighted_summand-hom base e gates t place b c =
      m.add _ _ ∙ ap₂ p.add
      (m.mul _ _ ∙ ap₂ p.mul (weighted-hom place _ _ (λ z. wiring_add-hom o p h m base e gates z b c)) (m.add _ _ ∙ ap₂ p.add (extension_at-hom o p h m base e t b) (extension_at-hom o p h m base e t c)))
      (m.mul _ _ ∙ ap₂ p.mul (weighted-hom place _ _ (λ z. wiring_mul-hom o p h m base e gates z b c)) (m.mul _ _ ∙ ap₂ p.mul (extension_at-hom o p h m base e t b) (extension_at-hom o p h m base e t c)))

module _ {A : Type 0} (o : Ops A) (l : Laws A o) where
  pub place_constants : (e : A) (place : Place A) → map_place (λ q. value_at o q e) (map_place (constant o) place) ≡ place
  place_constants e (At z) = ap At (constants o l e z)
  place_constants e (AtBoth b c a) = λ i. AtBoth (constants o l e b i) (constants o l e c i) (value-constant o l a e i)

  pub value-round_polynomial : (k : ℕ) (gates : List CircuitGate) (values : List A) (place : Place A) (bound : List A) (n : ℕ) (e : A) →
      value_at o (round_polynomial o k gates values place bound n) e ≡ sum_cube o n (λ w. weighted_summand_at o o (λ x. x) k gates values place (bound ++ e ∷ w))
  value-round_polynomial k gates values place bound n e =
      let h : List A → A = λ q. value_at o q e in
      let x : List A = o.zero ∷ o.one ∷ [] in
      sum_cube-hom (polynomial_ops o) o h (value_hom o l e) n _ _ (λ w.
      weighted_summand-hom (polynomial_ops o) o h (value_hom o l e) o (constant o) gates values (map_place (constant o) place) (take k (map (constant o) bound ++ x ∷ w)) (drop k (map (constant o) bound ++ x ∷ w))
      ∙ moved (sym (take-map h k (map (constant o) bound ++ x ∷ w)) ∙ ap (take k) (at_point o l e bound w)) (sym (drop-map h k (map (constant o) bound ++ x ∷ w)) ∙ ap (drop k) (at_point o l e bound w)))
    where
      moved : {b b' c c' : List A} → b ≡ b' → c ≡ c' →
          weighted_summand o o (λ t. value_at o (constant o t) e) gates values (map_place (λ q. value_at o q e) (map_place (constant o) place)) b c ≡ weighted_summand o o (λ t. t) gates values place b' c'
      moved p q = λ i. weighted_summand o o (λ t. value-constant o l t e i) gates values (place_constants e place i) (p i) (q i)

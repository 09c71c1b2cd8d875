-- A false claim on the first layer, where every equation holds, shows an exceptional challenge
use Rattle.std.proofs.Common.{◌≡◌, ℕ, ◌+◌, ◌-◌, ◌^◌, ◌<◌, ◌≤◌, ◌⊎◌, inl, inr, List, [], ◌∷◌, length, take, drop, get_or, refl, sym, ◌∙◌, ap, ap₂, arith, length-drop, get_or-take, get_or-drop, take-take, length-take, subst₂, le-ltb, lt-ltb, ne_eqb, eq-eqb, All, ◌++◌, suc, append-nil, append_assoc, subst}
use Rattle.field_ext.specs.Ring.{Ops, Laws}
use Rattle.field_ext.specs.Polynomial.{value_at, SamePolynomial}
use Rattle.field_ext.specs.Sums.{sum_cube}
use Rattle.circuit_core.specs.declared.gate.CircuitGate.{CircuitGate}
use Rattle.circuit_core.specs.Parts as parts
use Rattle.wiring_poly.specs.Wiring.{values_above}
use Rattle.gkr_layers.specs.Sumcheck.{RoundsHold, IsExceptionalFor, round_polynomial}
use Rattle.gkr_layers.specs.Layers.{GateLayer, values_over, FitTogether, message_count, next_place, LayersHold, IsExceptional}
use Rattle.gkr_layers.proofs.Soundness.{SomeExceptional, sound_rounds}
use Rattle.gkr_layers.proofs.api.Lists.{to_one, to_other}
use Rattle.gkr_layers.specs.Places.{Place, IsOver, value_over, weighted_summand_from, weighted_summand_at}
use Rattle.proof_wire.specs.declared.form.ProofForm.{ProofForm}
use Rattle.gkr_layers.specs.Forms.{said_left, said_right, last_polynomial, place_between}
use Rattle.gkr_layers.proofs.api.PlaceSums.{place_sum, value-round_polynomial}
use Rattle.gkr_layers.proofs.api.Forms.{place_over, value-last, true_left, true_right}

module _ {A : Type 0} (o : Ops A) (l : Laws A o) (same : (x y : A) → (x ≡ y) ⊎ (x ≡ y → ⊥)) where
  -- the place of an exceptional round
  some_round : (f : List A → A) (r_of : List A → ℕ → List A) (r_value : (bound : List A) (n : ℕ) (e : A) → value_at o (r_of bound n) e ≡ sum_cube o n (λ w. f (bound ++ e ∷ w))) →
      (bound : List A) (qs : List (List A)) (rs : List A) → SomeExceptional o l same f r_of r_value bound qs rs →
      (n : ℕ) × (n < length qs) × IsExceptionalFor o (get_or qs n []) (r_of (bound ++ take n rs) (length qs - 1 - n)) (get_or rs n o.zero)
  some_round f r_of r_value bound [] rs h = absurd h
  some_round f r_of r_value bound (q ∷ qs) [] h = absurd h
  some_round f r_of r_value bound (q ∷ qs) (r ∷ rs) h =
      elim h [
        | inl e ↦
            let m : length qs ≡ suc (length qs) - 1 - 0 = omega arith in
            (0, omega arith, subst (λ (p : List A). IsExceptionalFor o q p r) (ap₂ r_of (sym (append-nil bound)) m) e)
        | inr e ↦
            let w = some_round f r_of r_value (bound ++ r ∷ []) qs rs e in
            let m : length qs - 1 - w.0 ≡ suc (length qs) - 1 - suc w.0 = omega arith in
            (suc w.0, omega (arith, w.1), subst (λ (p : List A). IsExceptionalFor o (get_or qs w.0 []) p (get_or rs w.0 o.zero)) (ap₂ r_of (append_assoc bound (r ∷ []) (take w.0 rs)) m) w.2)
      ]

  moved : {q q' r r' : List A} {v v' : A} → q ≡ q' → r ≡ r' → v ≡ v' → IsExceptionalFor o q r v → IsExceptionalFor o q' r' v'
  moved a b c h = coe 0 1 (i. IsExceptionalFor o (a i) (b i) (c i)) h

module _ {A : Type 0} (o : Ops A) (l : Laws A o) (same : (x y : A) → (x ≡ y) ⊎ (x ≡ y → ⊥)) (form : ProofForm) where
  -- a false claim on a layer leads to a false claim below, or a challenge is exceptional
  sound_layer : (n : ℕ) (gates : List CircuitGate) (t : List A) (j : ℕ) (place : Place A) → IsOver j place → length gates ≡ 2 ^ j → All (parts.IsOver (2 ^ n)) gates →
      (qs : List (List A)) (rs : List A) (claim last : A) (q : List A) (e : A) → length qs ≡ n + n → length (take n rs) ≡ length (drop n rs) →
      RoundsHold o claim qs rs last →
      weighted_summand_from o gates place (take n rs) (drop n rs) (said_left o form q) (said_right o form q) ≡ last →
      ((claim ≡ value_over o (values_above o gates t) place) → ⊥) →
      ((value_at o q e ≡ value_over o t (place_between o form (take n rs) (drop n rs) e)) → ⊥)
      ⊎ (SomeExceptional o l same (weighted_summand_at o o (λ x. x) n gates t place) (round_polynomial o n gates t place) (value-round_polynomial o l n gates t place) [] qs rs
      ⊎ IsExceptionalFor o q (last_polynomial o form t (take n rs) (drop n rs)) e)
  sound_layer n gates t j place size many below qs rs claim last q e count halves rounds ended false' =
      let b : List A = take n rs in
      let c : List A = drop n rs in
      let f : List A → A = weighted_summand_at o o (λ x. x) n gates t place in
      let true' : List A = last_polynomial o form t b c in
      elim (sound_rounds o l same f (round_polynomial o n gates t place) (value-round_polynomial o l n gates t place) qs rs [] claim last rounds
      (λ h. false' (h ∙ ap (λ (k : ℕ). sum_cube o k f) count ∙ sym (place_sum o l n gates t j place size many below)))) [
        | inr x ↦ inr (inl x)
        | inl wrong ↦
            let differ : ¬ SamePolynomial o q true' =
            (λ s. wrong (sym ended ∙ ap₂ (weighted_summand_from o gates place b c) (true_left o l form t b c q halves s) (true_right o l form t b c q halves s))) in
            elim (same (value_at o q e) (value_at o true' e)) [
              | inl h ↦ inr (inr (differ, h))
              | inr h ↦ inl (λ k. h (k ∙ sym (value-last o l form t b c e)))
            ]
      ]

  more : (m i n : ℕ) → i < n → m + i < m + n
  more m i n h = omega arith

  past : (m i : ℕ) → m ≤ m + 1 + i
  past m i = omega arith

  apart_from : (m i : ℕ) → m + 1 + i ≡ m → ⊥
  apart_from m i e = omega arith

  taken : (m i : ℕ) → i ≡ m + i - m
  taken m i = omega arith

  pub sound_layers : (j : ℕ) (layers : List GateLayer) (input : List A) (place : Place A) (claim : A) (qs : List (List A)) (rs : List A) → IsOver j place → FitTogether j layers →
      length qs ≡ message_count layers → length rs ≡ message_count layers →
      LayersHold o form layers input place claim qs rs → ((claim ≡ value_over o (values_over o layers input) place) → ⊥) →
      (n : ℕ) × (n < message_count layers) × IsExceptional o form layers input place qs rs n (get_or rs n o.zero)
  sound_layers j [] input place claim qs rs over fits lq lr holds false' = absurd (false' holds)
  sound_layers j (layer ∷ layers) input place claim qs rs over fits lq lr holds false' =
      let k : ℕ = layer.k in
      let t : List A = values_over o layers input in
      let q : List A = get_or qs (k + k) [] in
      let e : A = get_or rs (k + k) o.zero in
      let qs' : List (List A) = take (k + k) qs in
      let rs' : List A = take (k + k) rs in
      let count : length qs' ≡ k + k = omega (arith, length-take (k + k) qs, lq) in
      let left : length (take k rs') ≡ k = omega (arith, length-take k rs', length-take (k + k) rs, lr) in
      let right : length (drop k rs') ≡ k = omega (arith, length-drop k rs', length-take (k + k) rs, lr) in
      elim (sound_layer k layer.gates t j place over fits.0 fits.1 qs' rs' claim _ q e count (left ∙ sym right) holds.0 refl false') [
        | inl next ↦
            let w = sound_layers k layers input (next_place o form k rs) (value_at o q e) (drop (k + k + 1) qs) (drop (k + k + 1) rs)
            (place_over o form (take k rs') (drop k rs') e k left right) fits.2
            (omega (arith, length-drop (k + k + 1) qs, lq)) (omega (arith, length-drop (k + k + 1) rs, lr)) holds.1 next in (
              k + k + 1 + w.0,
              more (k + k + 1) w.0 (message_count layers) w.1,
              to_other _ _ (le-ltb (k + k + 1 + w.0) (k + k) (past (k + k) w.0)) (to_other _ _ (ne_eqb (k + k + 1 + w.0) (k + k) (apart_from (k + k) w.0))
                  (let m : w.0 ≡ k + k + 1 + w.0 - (k + k + 1) = taken (k + k + 1) w.0 in
                  subst₂ (λ (n : ℕ) (v : A). IsExceptional o form layers input (next_place o form k rs) (drop (k + k + 1) qs) (drop (k + k + 1) rs) n v) m (get_or-drop (k + k + 1) rs w.0 o.zero) w.2)),
            )
        | inr x ↦
            elim x [
              | inl r ↦
                  let w = some_round o l same (weighted_summand_at o o (λ y. y) k layer.gates t place) (round_polynomial o k layer.gates t place) (value-round_polynomial o l k layer.gates t place) [] qs' rs' r in (
                    w.0,
                    omega (arith, w.1, count),
                    to_one _ _ (lt-ltb w.0 (k + k) (omega (arith, w.1, count)))
                        (moved o l same (let u : w.0 < k + k = omega (arith, w.1, count) in get_or-take (k + k) qs w.0 [] u)
                        (ap₂ (round_polynomial o k layer.gates t place) (take-take w.0 (k + k) rs (omega (arith, w.1, count))) (ap (λ (i : ℕ). i - 1 - w.0) count))
                        (let u : w.0 < k + k = omega (arith, w.1, count) in get_or-take (k + k) rs w.0 o.zero u) w.2),
                  )
              | inr h ↦ (k + k, omega arith, to_other _ _ (le-ltb (k + k) (k + k) (omega arith)) (to_one _ _ (eq-eqb (k + k) (k + k) refl) h))
            ]
      ]

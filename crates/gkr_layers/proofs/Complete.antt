-- Honest messages meet every equation
use Rattle.std.proofs.Common.{◌≡◌, ℕ, zero, suc, ◌+◌, ◌-◌, ◌<◌, ◌≤◌, List, [], ◌∷◌, ◌++◌, length, take, drop, get_or, refl, sym, ◌∙◌, ap, ap₂, subst, arith, length-drop, length-take, get_or-take, append_assoc, take-take}
use Rattle.field_ext.specs.Ring.{Ops, Laws}
use Rattle.field_ext.specs.Field.{K, k_ops}
use Rattle.field_ext.specs.Polynomial.{value_at, coefficients}
use Rattle.field_ext.specs.Sums.{sum_cube}
use Rattle.field_ext.proofs.api.KLaws.{k_laws}
use Rattle.mle_table.proofs.api.SumLaws.{sum_cube-same}
use Rattle.gkr_layers.specs.Sumcheck.{RoundsHold, round_polynomial}
use Rattle.gkr_layers.specs.Layers.{GateLayer, values_over, FitTogether, message_count, next_place, LayersHold}
use Rattle.gkr_layers.specs.Places.{Place, IsOver, value_over, weighted_summand_from, weighted_summand_at}
use Rattle.proof_wire.specs.declared.form.ProofForm.{ProofForm}
use Rattle.proof_wire.specs.Forms.{last_degree}
use Rattle.gkr_layers.specs.Forms.{last_polynomial}
use Rattle.gkr_layers.specs.Honest.{AreHonest}
use Rattle.gkr_layers.proofs.api.Coefficients.{value-coefficients}
use Rattle.gkr_layers.proofs.api.PlaceSums.{place_sum, value-round_polynomial}
use Rattle.gkr_layers.proofs.api.Degree.{length-round_polynomial, length-last}
use Rattle.gkr_layers.proofs.api.Forms.{place_over, value-last, said_left_by_values, said_right_by_values}

module _ {A : Type 0} (o : Ops A) (l : Laws A o) where
  -- rounds whose values are sums over the coordinates that are left
  rounds_true : (f : List A → A) (n : ℕ) (bound : List A) (qs : List (List A)) (rs : List A) (claim : A) → length qs ≡ n → length rs ≡ n →
      ((j : ℕ) → j < n → (e : A) → value_at o (get_or qs j []) e ≡ sum_cube o (n - j - 1) (λ w. f (bound ++ (take j rs ++ e ∷ w)))) →
      claim ≡ sum_cube o n (λ w. f (bound ++ w)) → RoundsHold o claim qs rs (f (bound ++ rs))
  rounds_true f zero bound [] [] claim u v h is = is
  rounds_true f zero bound (q ∷ qs) rs claim u v h is = absurd (omega arith)
  rounds_true f zero bound [] (r ∷ rs) claim u v h is = absurd (omega arith)
  rounds_true f (suc n) bound [] rs claim u v h is = absurd (omega arith)
  rounds_true f (suc n) bound (q ∷ qs) [] claim u v h is = absurd (omega arith)
  rounds_true f (suc n) bound (q ∷ qs) (r ∷ rs) claim u v h is =
      let m : suc n - 0 - 1 ≡ n = omega arith in
      let first : (e : A) → value_at o q e ≡ sum_cube o n (λ w. f (bound ++ e ∷ w)) = λ e. h 0 (omega arith) e ∙ ap (λ (i : ℕ). sum_cube o i (λ w. f (bound ++ e ∷ w))) m in
      let rest = rounds_true f n (bound ++ r ∷ []) qs rs (value_at o q r) (omega arith) (omega arith)
      (λ j w e.
      let i : suc n - suc j - 1 ≡ n - j - 1 = omega arith in
      h (suc j) (omega arith) e
      ∙ ap (λ (k : ℕ). sum_cube o k (λ w. f (bound ++ r ∷ (take j rs ++ e ∷ w)))) i
      ∙ sum_cube-same o l (n - j - 1) _ _ (λ w. ap f (sym (append_assoc bound (r ∷ []) (take j rs ++ e ∷ w)))))
      (first r ∙ sum_cube-same o l n _ _ (λ w. ap f (sym (append_assoc bound (r ∷ []) w)))) in
      (ap₂ o.add (first o.zero) (first o.one) ∙ sym is, subst (λ (last : A). RoundsHold o (value_at o q r) qs rs last) (ap f (append_assoc bound (r ∷ []) rs)) rest)

  module _ (form : ProofForm) where
    -- the rounds' messages have the values of the true polynomials, and the last message is the true one
    abbrev pub AreTrue : List GateLayer → List A → Place A → List (List A) → List A → Type 0
    AreTrue [] input place qs rs = Unit {0}
    AreTrue (layer ∷ layers) input place qs rs =
        let k = layer.k in
        let t = values_over o layers input in
        let b = take k (take (k + k) rs) in
        let c = drop k (take (k + k) rs) in
        ((j : ℕ) → j < k + k → (e : A) → value_at o (get_or qs j []) e ≡ value_at o (round_polynomial o k layer.gates t place (take j rs) (k + k - j - 1)) e)
        × (get_or qs (k + k) [] ≡ coefficients o (last_degree form k + 1) (last_polynomial o form t b c))
        × AreTrue layers input (next_place o form k rs) (drop (k + k + 1) qs) (drop (k + k + 1) rs)

    pub complete_layers : (j : ℕ) (layers : List GateLayer) (input : List A) (place : Place A) (claim : A) (qs : List (List A)) (rs : List A) → IsOver j place → FitTogether j layers →
        length qs ≡ message_count layers → length rs ≡ message_count layers → AreTrue layers input place qs rs →
        claim ≡ value_over o (values_over o layers input) place → LayersHold o form layers input place claim qs rs
    complete_layers j [] input place claim qs rs over fits lq lr true' is = is
    complete_layers j (layer ∷ layers) input place claim qs rs over fits lq lr true' is =
        let k : ℕ = layer.k in
        let t : List A = values_over o layers input in
        let f : List A → A = weighted_summand_at o o (λ x. x) k layer.gates t place in
        let q : List A = get_or qs (k + k) [] in
        let e : A = get_or rs (k + k) o.zero in
        let qs' : List (List A) = take (k + k) qs in
        let rs' : List A = take (k + k) rs in
        let b : List A = take k rs' in
        let c : List A = drop k rs' in
        let count : length (take (layer.k + layer.k) qs) ≡ layer.k + layer.k = omega (arith, length-take (k + k) qs, lq) in
        let count' : length (take (layer.k + layer.k) rs) ≡ layer.k + layer.k = omega (arith, length-take (k + k) rs, lr) in
        let left : length (take layer.k (take (layer.k + layer.k) rs)) ≡ layer.k = omega (arith, length-take k rs', count') in
        let right : length (drop layer.k (take (layer.k + layer.k) rs)) ≡ layer.k = omega (arith, length-drop k rs', count') in
        let size : length (take layer.k (take (layer.k + layer.k) rs)) ≤ layer.k = omega (arith, left) in
        let at : (x : A) → value_at o q x ≡ value_at o (last_polynomial o form t b c) x =
        λ x. ap (λ (p : List A). value_at o p x) true'.1 ∙ value-coefficients o l (last_degree form k + 1) (last_polynomial o form t b c) x (length-last o form t b c k size) in
        let rounds = rounds_true f (k + k) [] qs' rs' claim count count'
        (λ j u e.
        ap (λ (p : List A). value_at o p e) (get_or-take (k + k) qs j [] u)
        ∙ true'.0 j u e
        ∙ value-round_polynomial o l k layer.gates t place (take j rs) (k + k - j - 1) e
        ∙ ap (λ (bound : List A). sum_cube o (k + k - j - 1) (λ w. f (bound ++ e ∷ w))) (sym (take-take j (k + k) rs (omega arith))))
        (is ∙ place_sum o l k layer.gates t j place over fits.0 fits.1) in (
          subst (λ (last : A). RoundsHold o claim qs' rs' last)
              (sym (ap₂ (weighted_summand_from o layer.gates place b c) (said_left_by_values o l form t b c q k (left ∙ sym right) size true'.1 at) (said_right_by_values o l form t b c q k (left ∙ sym right) size true'.1 at))) rounds,
          complete_layers k layers input (next_place o form k rs) (value_at o q e) (drop (k + k + 1) qs) (drop (k + k + 1) rs)
              (place_over o form b c e k left right) fits.2
              (omega (arith, length-drop (k + k + 1) qs, lq)) (omega (arith, length-drop (k + k + 1) rs, lr)) true'.2
              (at e ∙ value-last o l form t b c e),
        )

module _ (form : ProofForm) where
  honest_true : (layers : List GateLayer) (input : List K) (place : Place K) (qs : List (List K)) (rs : List K) → AreHonest form layers input place qs rs → AreTrue k_ops k_laws form layers input place qs rs
  honest_true [] input place qs rs h = tt
  honest_true (layer ∷ layers) input place qs rs h =
      let k : ℕ = layer.k in
      let t : List K = values_over k_ops layers input in (
        λ j v e.
            ap (λ (p : List K). value_at k_ops p e) (h.0.rounds j v)
            ∙ value-coefficients k_ops k_laws 3 (round_polynomial k_ops k layer.gates t place (take j rs) (k + k - j - 1)) e (length-round_polynomial k_ops k layer.gates t place (take j rs) (k + k - j - 1)),
        h.0.last,
        honest_true layers input (next_place k_ops form k rs) (drop (k + k + 1) qs) (drop (k + k + 1) rs) h.1,
      )

  pub honest_hold : (j : ℕ) (layers : List GateLayer) (input : List K) (place : Place K) (qs : List (List K)) (rs : List K) → IsOver j place → FitTogether j layers →
      length qs ≡ message_count layers → length rs ≡ message_count layers → AreHonest form layers input place qs rs →
      LayersHold k_ops form layers input place (value_over k_ops (values_over k_ops layers input) place) qs rs
  honest_hold j layers input place qs rs over fits u v h =
      complete_layers k_ops k_laws form j layers input place (value_over k_ops (values_over k_ops layers input) place) qs rs over fits u v (honest_true layers input place qs rs h) refl

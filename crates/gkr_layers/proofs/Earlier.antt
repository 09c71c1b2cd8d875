-- Whether a challenge is exceptional hangs on earlier messages and challenges alone
use Rattle.std.proofs.Common.{◌≡◌, ℕ, suc, ◌+◌, ◌-◌, ◌<◌, inl, inr, List, [], ◌∷◌, take, drop, get_or, sym, subst, arith, get_or-take, take-take, le-ltb, lt-ltb, ne_eqb, eq-eqb}
use Rattle.std.proofs.lemmas.Bool.{cases_lt, cases_eq}
use Rattle.field_ext.specs.Field.{K, k_ops, zero_k}
use Rattle.gkr_layers.specs.Sumcheck.{IsExceptionalFor, difference, IsExceptionalFold, round_polynomial}
use Rattle.gkr_layers.specs.Layers.{GateLayer, values_over, next_place, IsExceptional}
use Rattle.gkr_layers.specs.Acceptance.{CircuitClaim, true_table}
use Rattle.gkr_layers.proofs.api.Lists.{from_one, from_other, to_one, to_other, drop-take}
use Rattle.gkr_layers.specs.Places.{Place}
use Rattle.gkr_layers.specs.Places.Place.{At}
use Rattle.proof_wire.specs.declared.form.ProofForm.{ProofForm}
use Rattle.gkr_layers.specs.Forms.{last_polynomial, place_between}
use Rattle.gkr_layers.specs.Soundness.{IsExceptionalChallenge}

module _ (form : ProofForm) where
  -- of a layer and those below, challenge n hangs on the first n + 1 messages and the first n challenges
  pub earlier_layers : (layers : List GateLayer) (input : List K) (place : Place K) (qs : List (List K)) (rs : List K) (n m : ℕ) (v : K) → m ≡ suc n →
      IsExceptional k_ops form layers input place qs rs n v → IsExceptional k_ops form layers input place (take m qs) (take n rs) n v
  earlier_layers [] input place qs rs n m v e h = h
  earlier_layers (layer ∷ layers) input place qs rs n m v e h =
      let k = layer.k in
      let t : List K = values_over k_ops layers input in
      let within : n < m = omega arith in
      let q : get_or qs n [] ≡ get_or (take m qs) n [] = sym (get_or-take m qs n [] within) in
      let Round : List K → List K → Type 0 = λ p bound. IsExceptionalFor k_ops p (round_polynomial k_ops k layer.gates t place bound (k + k - 1 - n)) v in
      let Last : List K → List K → Type 0 = λ p bound. IsExceptionalFor k_ops p (last_polynomial k_ops form t (take k bound) (drop k bound)) v in
      let Below : Place K → List (List K) → List K → Type 0 = λ next ps bs. IsExceptional k_ops form layers input next ps bs (n - (k + k + 1)) v in
      elim (cases_lt n (layer.k + layer.k)) [
        | inl u ↦
            to_one _ _ (lt-ltb n (k + k) u)
            (coe 0 1 (i. Round (q i) (sym (take-take n n rs (omega arith)) i)) (from_one (Round (get_or qs n []) (take n rs)) _ (lt-ltb n (k + k) u) h))
        | inr u ↦
            let behind = from_other (Round (get_or qs n []) (take n rs)) _ (le-ltb n (k + k) u) h in
            let bound : take (layer.k + layer.k) rs ≡ take (layer.k + layer.k) (take n rs) = sym (take-take (layer.k + layer.k) n rs u) in
            to_other _ _ (le-ltb n (k + k) u)
            (elim (cases_eq n (layer.k + layer.k)) [
              | inl same ↦
                  to_one _ _ (eq-eqb n (k + k) same)
                  (coe 0 1 (i. Last (q i) (bound i)) (from_one (Last (get_or qs n []) (take (k + k) rs)) _ (eq-eqb n (k + k) same) behind))
              | inr d ↦
                  let past : layer.k + layer.k < n = omega arith in
                  let next : next_place k_ops form k rs ≡ next_place k_ops form k (take n rs) =
                  (λ i. place_between k_ops form (take k (bound i)) (drop k (bound i)) (sym (get_or-take n rs (k + k) zero_k past) i)) in
                  let step : m - (layer.k + layer.k + 1) ≡ suc (n - (layer.k + layer.k + 1)) = omega arith in
                  let below = earlier_layers layers input (next_place k_ops form k rs) (drop (k + k + 1) qs) (drop (k + k + 1) rs) (n - (k + k + 1)) (m - (k + k + 1)) v step
                  (from_other (Last (get_or qs n []) (take (k + k) rs)) _ (ne_eqb n (k + k) d) behind) in
                  to_other _ _ (ne_eqb n (k + k) d)
                  (coe 0 1 (i. Below (next i) (sym (drop-take (k + k + 1) m qs) i) (sym (drop-take (k + k + 1) n rs) i)) below)
            ])
      ]

pub earlier : (stated : CircuitClaim) (qs : List (List K)) (rs : List K) (n : ℕ) (v : K) →
    IsExceptionalChallenge stated qs rs n v → IsExceptionalChallenge stated (take (n + 1 - stated.k) qs) (take n rs) n v
earlier stated qs rs n v h =
    let k = stated.k in
    let d : List K = difference k_ops stated.claimed_table (true_table stated) in
    let Output : List K → Type 0 = λ before. IsExceptionalFold k_ops d before v in
    let Below : List K → List (List K) → List K → Type 0 = λ z ps bs. IsExceptional k_ops stated.form stated.layers stated.input_table (At z) ps bs (n - k) v in
    elim (cases_lt n stated.k) [
      | inl u ↦
          to_one _ _ (lt-ltb n k u) (subst Output (sym (take-take n n rs (omega arith))) (from_one (Output (take n rs)) _ (lt-ltb n k u) h))
      | inr u ↦
          let step : n + 1 - stated.k ≡ suc (n - stated.k) = omega arith in
          let below = earlier_layers stated.form stated.layers stated.input_table (At (take k rs)) qs (drop k rs) (n - k) (n + 1 - k) v step (from_other (Output (take n rs)) _ (le-ltb n k u) h) in
          to_other _ _ (le-ltb n k u) (coe 0 1 (i. Below (sym (take-take k n rs u) i) (take (n + 1 - k) qs) (sym (drop-take k n rs) i)) below)
    ]

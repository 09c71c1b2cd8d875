-- Which drawn challenges are exceptional: those at which the fold of the outputs' difference becomes zero, and those at which a false
-- message has the true value
use Rattle.std.proofs.Common.{◌≡◌, ℕ, ◌+◌, ◌-◌, ◌<◌, ◌≤◌, List, [], ◌∷◌, length, take, drop, get_or, sym, ◌∙◌, ap, subst, arith, get_or-take, take-take}
use Rattle.std.proofs.lemmas.Bool.{lt-ltb, le-ltb, eq-eqb, ne_eqb}
use Rattle.std.proofs.lemmas.List.{get_or-drop}
use Rattle.field_ext.specs.Field.{K, k_ops, zero_k}
use Rattle.field_ext.specs.Polynomial.{value_at, SamePolynomial, coefficients}
use Rattle.field_ext.proofs.api.KLaws.{k_laws}
use Rattle.proof_wire.specs.declared.form.ProofForm.{ProofForm}
use Rattle.gkr_layers.specs.Places.{Place}
use Rattle.gkr_layers.specs.Places.Place.{At}
use Rattle.gkr_layers.specs.Sumcheck.{difference, IsExceptionalFor, IsExceptionalFold}
use Rattle.gkr_layers.specs.Layers.{GateLayer, next_place, message_count, IsExceptional}
use Rattle.gkr_layers.specs.Acceptance.{CircuitClaim, true_table}
use Rattle.gkr_layers.proofs.api.Lists.{from_one, from_other, to_one, to_other, drop-take}
use Rattle.gkr_layers.proofs.api.Coefficients.{value-coefficients}
use Rattle.audit_core.specs.Truth.{true_message}
use Rattle.audit_core.specs.Audit.{IsDrawnExceptional}
use Rattle.audit_core.proofs.Truth.{part_of, true_round, true_last, true_below, below_read, true_front, same_is, is_same}
use Rattle.audit_core.proofs.Truth.Part.{InRound, Last, Below}

module _ (form : ProofForm) where
  -- after a message the exceptional challenges are those at which it isn't the true polynomial and has its value
  pub exceptional_to : (layers : List GateLayer) (input : List K) (place : Place K) (qs : List (List K)) (rs : List K) (n : ℕ) (v : K) →
      IsExceptional k_ops form layers input place qs rs n v → IsExceptionalFor k_ops (get_or qs n []) (true_message form layers input place rs n) v
  exceptional_to [] input place qs rs n v h = absurd h
  exceptional_to (layer ∷ layers) input place qs rs n v h =
      elim (part_of n layer.k) [
        | InRound u ↦
            subst (λ (p : List K). IsExceptionalFor k_ops (get_or qs n []) p v) (sym (true_round form layer layers n input place rs u)) (from_one _ _ (lt-ltb n (layer.k + layer.k) u) h)
        | Last e ↦
            subst (λ (p : List K). IsExceptionalFor k_ops (get_or qs n []) p v) (sym (true_last form layer layers n input place rs e))
            (from_one _ _ (eq-eqb n (layer.k + layer.k) e) (from_other _ _ (le-ltb n (layer.k + layer.k) (omega arith)) h))
        | Below u ↦
            let below = exceptional_to layers input (next_place k_ops form layer.k rs) (drop (layer.k + layer.k + 1) qs) (drop (layer.k + layer.k + 1) rs) (n - (layer.k + layer.k + 1)) v
            (from_other _ _ (ne_eqb n (layer.k + layer.k) (omega arith)) (from_other _ _ (le-ltb n (layer.k + layer.k) (omega arith)) h)) in
            coe 0 1 (i. IsExceptionalFor k_ops (below_read form qs [] n (layer.k + layer.k + 1) (omega arith) i) (sym (true_below form layer layers n input place rs u) i) v) below
      ]

  pub exceptional_from : (layers : List GateLayer) (input : List K) (place : Place K) (qs : List (List K)) (rs : List K) (n : ℕ) (v : K) → n < message_count layers →
      IsExceptionalFor k_ops (get_or qs n []) (true_message form layers input place rs n) v → IsExceptional k_ops form layers input place qs rs n v
  exceptional_from [] input place qs rs n v w h = absurd (omega arith)
  exceptional_from (layer ∷ layers) input place qs rs n v w h =
      elim (part_of n layer.k) [
        | InRound u ↦
            to_one _ _ (lt-ltb n (layer.k + layer.k) u) (subst (λ (p : List K). IsExceptionalFor k_ops (get_or qs n []) p v) (true_round form layer layers n input place rs u) h)
        | Last e ↦
            to_other _ _ (le-ltb n (layer.k + layer.k) (omega arith))
            (to_one _ _ (eq-eqb n (layer.k + layer.k) e) (subst (λ (p : List K). IsExceptionalFor k_ops (get_or qs n []) p v) (true_last form layer layers n input place rs e) h))
        | Below u ↦
            let inner : n - (layer.k + layer.k + 1) < message_count layers = omega (arith, w) in
            to_other _ _ (le-ltb n (layer.k + layer.k) (omega arith))
            (to_other _ _ (ne_eqb n (layer.k + layer.k) (omega arith))
            (exceptional_from layers input (next_place k_ops form layer.k rs) (drop (layer.k + layer.k + 1) qs) (drop (layer.k + layer.k + 1) rs) (n - (layer.k + layer.k + 1)) v inner
            (coe 1 0 (i. IsExceptionalFor k_ops (below_read form qs [] n (layer.k + layer.k + 1) (omega arith) i) (sym (true_below form layer layers n input place rs u) i) v) h)))
      ]

module _ (stated : CircuitClaim) (qs : List (List K)) (rs : List K) where
  abbrev outputs_difference : List K
  outputs_difference = difference k_ops stated.claimed_table (true_table stated)

  -- the true polynomial in the place of message m, in words of all challenges
  abbrev pub truth_at : ℕ → List K
  truth_at m = true_message stated.form stated.layers stated.input_table (At (take stated.k rs)) (drop stated.k rs) m

  module _ (n : ℕ) (u : n < stated.k) where
    same_front : take n (take n rs) ≡ take n (take stated.k rs)
    same_front = take-take n n rs (omega arith) ∙ sym (take-take n stated.k rs (omega arith))

    same_value : get_or rs n zero_k ≡ get_or (take stated.k rs) n zero_k
    same_value = sym (get_or-take stated.k rs n zero_k u)

    -- a coordinate of the output point
    pub coordinate_to : IsDrawnExceptional stated qs rs n → IsExceptionalFold k_ops outputs_difference (take n (take stated.k rs)) (get_or (take stated.k rs) n zero_k)
    coordinate_to h = coe 0 1 (i. IsExceptionalFold k_ops outputs_difference (same_front i) (same_value i)) (from_one _ _ (lt-ltb n stated.k u) h)

    pub coordinate_from : IsExceptionalFold k_ops outputs_difference (take n (take stated.k rs)) (get_or (take stated.k rs) n zero_k) → IsDrawnExceptional stated qs rs n
    coordinate_from h = to_one _ _ (lt-ltb n stated.k u) (coe 1 0 (i. IsExceptionalFold k_ops outputs_difference (same_front i) (same_value i)) h)

  module _ (m : ℕ) where
    past : stated.k ≤ stated.k + m
    past = omega arith

    index : stated.k + m - stated.k ≡ m
    index = omega arith

    read_message : get_or (take (stated.k + m + 1 - stated.k) qs) (stated.k + m - stated.k) [] ≡ get_or qs m []
    read_message =
        let within : stated.k + m - stated.k < stated.k + m + 1 - stated.k = omega arith in
        get_or-take (stated.k + m + 1 - stated.k) qs (stated.k + m - stated.k) [] within ∙ ap (λ (i : ℕ). get_or qs i []) index

    read_truth : true_message stated.form stated.layers stated.input_table (At (take stated.k (take (stated.k + m) rs))) (drop stated.k (take (stated.k + m) rs)) (stated.k + m - stated.k) ≡ truth_at m
    read_truth =
        (λ i. true_message stated.form stated.layers stated.input_table (At (take-take stated.k (stated.k + m) rs past i)) (drop-take stated.k (stated.k + m) rs i) (index i))
        ∙ true_front stated.form stated.layers stated.input_table (At (take stated.k rs)) (drop stated.k rs) m (stated.k + m - stated.k) (omega arith)

    read_challenge : get_or rs (stated.k + m) zero_k ≡ get_or (drop stated.k rs) m zero_k
    read_challenge = sym (get_or-drop stated.k rs m zero_k)

    -- a challenge after a message
    pub message_to : IsDrawnExceptional stated qs rs (stated.k + m) → IsExceptionalFor k_ops (get_or qs m []) (truth_at m) (get_or (drop stated.k rs) m zero_k)
    message_to h =
        coe 0 1 (i. IsExceptionalFor k_ops (read_message i) (read_truth i) (read_challenge i))
        (exceptional_to stated.form stated.layers stated.input_table (At (take stated.k (take (stated.k + m) rs))) (take (stated.k + m + 1 - stated.k) qs) (drop stated.k (take (stated.k + m) rs)) (stated.k + m - stated.k) (get_or rs (stated.k + m) zero_k)
        (from_other _ _ (le-ltb (stated.k + m) stated.k past) h))

    pub message_from : m < message_count stated.layers → IsExceptionalFor k_ops (get_or qs m []) (truth_at m) (get_or (drop stated.k rs) m zero_k) → IsDrawnExceptional stated qs rs (stated.k + m)
    message_from w h =
        let inner : stated.k + m - stated.k < message_count stated.layers = omega (arith, w) in
        to_other _ _ (le-ltb (stated.k + m) stated.k past)
        (exceptional_from stated.form stated.layers stated.input_table (At (take stated.k (take (stated.k + m) rs))) (take (stated.k + m + 1 - stated.k) qs) (drop stated.k (take (stated.k + m) rs)) (stated.k + m - stated.k) (get_or rs (stated.k + m) zero_k) inner
        (coe 1 0 (i. IsExceptionalFor k_ops (read_message i) (read_truth i) (read_challenge i)) h))

-- beside the honest message t of n coefficients
module _ (n : ℕ) (q t p : List K) (v : K) (size : length q ≡ n) (least : length p ≤ n) (honest : t ≡ coefficients k_ops n p) where
  pub differs_to : ¬ (q ≡ t) → ¬ SamePolynomial k_ops q p
  differs_to d s = d (same_is n q p size least s ∙ sym honest)

  pub differs_from : ¬ SamePolynomial k_ops q p → ¬ (q ≡ t)
  differs_from d e = d (is_same n q p size least (e ∙ honest))

  pub same_values : value_at k_ops t v ≡ value_at k_ops p v
  same_values = ap (λ (cs : List K). value_at k_ops cs v) honest ∙ value-coefficients k_ops k_laws n p v least

  pub passes_to : ¬ (q ≡ t) × (value_at k_ops q v ≡ value_at k_ops t v) → IsExceptionalFor k_ops q p v
  passes_to h = (differs_to h.0, h.1 ∙ same_values)

  pub passes_from : IsExceptionalFor k_ops q p v → ¬ (q ≡ t) × (value_at k_ops q v ≡ value_at k_ops t v)
  passes_from h = (differs_from h.0, h.1 ∙ sym same_values)

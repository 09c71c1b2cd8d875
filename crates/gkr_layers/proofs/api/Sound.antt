-- Where a false claim is accepted, some challenge is exceptional
use Rattle.std.proofs.Common.{◌≡◌, ℕ, ◌+◌, ◌-◌, ◌^◌, ◌<◌, ◌≤◌, inl, inr, List, length, take, drop, get_or, sym, ◌∙◌, ap, arith, get_or-take, get_or-drop, le-ltb, lt-ltb, length-take, length-drop, take-take, ◌∷◌, ext_get_or, [], suc, refl}
use Rattle.field_ext.specs.Field.{K, k_ops, zero_k, add_k}
use Rattle.field_ext.specs.Polynomial.{IsZero}
use Rattle.field_ext.specs.Multilinear.{extension_at}
use Rattle.field_ext.proofs.api.KLaws.{k_laws, k_same}
use Rattle.gkr_layers.specs.Sumcheck.{difference, IsExceptionalFold}
use Rattle.gkr_layers.specs.Layers.{FitTogether, message_count, IsExceptional, GateLayer, values_over}
use Rattle.gkr_layers.proofs.api.Circuits.{input_exponent}
use Rattle.gkr_layers.proofs.Output.{sound_output, ext-difference, get_or-difference}
use Rattle.gkr_layers.specs.declared.verdict.Verdict.TheVariants.{Accepted}
use Rattle.gkr_layers.specs.Acceptance.{CircuitClaim, true_table, challenge_count, verdict_of}
use Rattle.gkr_layers.proofs.api.Lists.{to_one, to_other}
use Rattle.gkr_layers.specs.Places.Place.{At}
use Rattle.gkr_layers.specs.Soundness.{IsExceptionalChallenge, HaveDegrees, LetsPass}
use Rattle.gkr_layers.proofs.SoundLayers.{sound_layers}
use Rattle.gkr_layers.proofs.api.Accepted.{layers_hold}
use Rattle.gkr_layers.proofs.Earlier.{earlier}
use Rattle.gkr_layers.proofs.Few.{few_challenges, degrees_front}
use Rattle.std.proofs.lemmas.List.{length-map}
use Rattle.field_ext.proofs.api.Rings.{zero_add}

length-values : (j : ℕ) (layers : List GateLayer) (input : List K) → FitTogether j layers → length input ≡ 2 ^ input_exponent j layers → length (values_over k_ops layers input) ≡ 2 ^ j
length-values j [] input fits size = size
length-values j (layer ∷ layers) input fits size = length-map layer.gates _ ∙ fits.0

length-difference : (ys vs : List K) → length ys ≡ length vs → length (difference k_ops ys vs) ≡ length ys
length-difference [] vs e = refl
length-difference (y ∷ ys) [] e = absurd (omega arith)
length-difference (y ∷ ys) (v ∷ vs) e = ap (λ (n : ℕ). suc n) (length-difference ys vs (omega arith))

-- tables whose difference is zero are equal
pub no_difference : (ys vs : List K) → length ys ≡ length vs → IsZero k_ops (difference k_ops ys vs) → ys ≡ vs
no_difference ys vs e z =
    ext_get_or zero_k ys vs e (λ g u.
    let inside : g < length (difference k_ops ys vs) = omega (arith, length-difference ys vs e) in
    sym (get_or-difference k_ops k_laws k_same ys vs g e)
    ∙ ap (λ (x : K). add_k x (get_or vs g zero_k)) (z g zero_k inside)
    ∙ zero_add k_ops k_laws (get_or vs g zero_k))

module _ (stated : CircuitClaim) (qs : List (List K)) (rs : List K) (fits : FitTogether stated.k stated.layers)
    (claimed_size : length stated.claimed_table ≡ 2 ^ stated.k) (input_size : length stated.input_table ≡ 2 ^ input_exponent stated.k stated.layers)
    (all : length qs ≡ message_count stated.layers) (drawn : length rs ≡ challenge_count stated)
    (accepted : verdict_of stated qs rs ≡ Accepted) (false' : stated.claimed_table ≡ true_table stated → ⊥) where
  abbrev claimed : List K
  claimed = stated.claimed_table

  abbrev truth : List K
  truth = true_table stated

  same_size : length claimed ≡ length truth
  same_size = claimed_size ∙ sym (length-values stated.k stated.layers stated.input_table fits input_size)

  point_size : length (take stated.k rs) ≡ stated.k
  point_size = omega (arith, length-take stated.k rs, drawn)

  rest_size : length (drop stated.k rs) ≡ message_count stated.layers
  rest_size = omega (arith, length-drop stated.k rs, drawn)

  differ : ¬ IsZero k_ops (difference k_ops claimed truth)
  differ zeros = false' (no_difference claimed truth same_size zeros)

  some_exceptional : (n : ℕ) × (n < challenge_count stated) × IsExceptionalChallenge stated qs rs n (get_or rs n zero_k)
  some_exceptional =
      let size : length (difference k_ops claimed truth) ≡ 2 ^ length (take stated.k rs) = length-difference claimed truth same_size ∙ claimed_size ∙ ap (λ (n : ℕ). 2 ^ n) (sym point_size) in
      let z : List K = take stated.k rs in
      elim (sound_output k_ops k_laws k_same (take stated.k rs) (difference k_ops claimed truth) size differ) [
        | inl ne ↦
            let claim : K = extension_at k_ops k_ops (λ x. x) claimed z in
            let wrong : (extension_at k_ops k_ops (λ x. x) claimed (take stated.k rs) ≡ extension_at k_ops k_ops (λ x. x) truth (take stated.k rs)) → ⊥ =
            λ e. ne (ext-difference k_ops k_laws k_same claimed truth (take stated.k rs) same_size e) in
            let w = sound_layers k_ops k_laws k_same stated.form stated.k stated.layers stated.input_table (At z) claim qs (drop stated.k rs) point_size fits all rest_size
            (layers_hold stated.form 0 stated.layers stated.input_table (At z) claim qs (drop stated.k rs) all rest_size accepted) wrong in (
              stated.k + w.0,
              more stated.k w.0 (message_count stated.layers) w.1,
              to_other _ _ (le-ltb (stated.k + w.0) stated.k (past stated.k w.0)) (moved w.0 w.2),
            )
        | inr w ↦
            let here : w.0 < stated.k = omega (arith, w.1, point_size) in (
              w.0,
              omega (arith, here),
              to_one _ _ (lt-ltb w.0 stated.k here)
                  (let short : w.0 ≤ stated.k = omega arith in
                  coe 0 1 (i. IsExceptionalFold k_ops (difference k_ops claimed truth) (take-take w.0 stated.k rs short i) (get_or-take stated.k rs w.0 zero_k here i)) w.2),
            )
      ]
    where
      more : (m i n : ℕ) → i < n → m + i < m + n
      more m i n h = omega arith

      past : (m i : ℕ) → m ≤ m + i
      past m i = omega arith

      moved : (i : ℕ) → IsExceptional k_ops stated.form stated.layers stated.input_table (At (take stated.k rs)) qs (drop stated.k rs) i (get_or (drop stated.k rs) i zero_k) →
          IsExceptional k_ops stated.form stated.layers stated.input_table (At (take stated.k rs)) qs (drop stated.k rs) (stated.k + i - stated.k) (get_or rs (stated.k + i) zero_k)
      moved i h =
          let e : i ≡ stated.k + i - stated.k = omega arith in
          coe 0 1 (j. IsExceptional k_ops stated.form stated.layers stated.input_table (At (take stated.k rs)) qs (drop stated.k rs) (e j) (get_or-drop stated.k rs i zero_k j)) h

  pub lets_pass : HaveDegrees stated.form stated.layers qs → (n : ℕ) × LetsPass stated qs rs n
  lets_pass degrees =
      let w = some_exceptional in (
        w.0,
        record {
          drawn = w.1;
          exceptional = earlier stated qs rs w.0 (get_or rs w.0 zero_k) w.2;
          few = few_challenges stated (take (w.0 + 1 - stated.k) qs) (take w.0 rs) w.0 (degrees_front stated.form stated.layers (w.0 + 1 - stated.k) qs degrees);
        },
      )

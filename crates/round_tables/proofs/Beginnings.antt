-- A phase begins with what is gathered for it
use Rattle.std.proofs.Common.{◌≡◌, ℕ, ◌^◌, ◌<◌, ◌≤◌, ◌⊎◌, inl, inr, List, [], ◌∷◌, length, refl, sym, ◌∙◌, ap, arith, subst}
use Rattle.field_ext.specs.Field.{K, k_ops}
use Rattle.field_ext.proofs.api.KLaws.{k_laws}
use Rattle.field_ext.specs.Multilinear.{eq_poly, extension_at}
use Rattle.circuit_core.specs.declared.gate.CircuitGate.{CircuitGate}
use Rattle.gkr_layers.specs.Places.{Place}
use Rattle.gate_gather.specs.Gathering.{GathersLeft, GathersRight}
use Rattle.round_tables.specs.LayerSum.{left_in_phase}
use Rattle.round_tables.specs.Phase.{IsLayer, IsPhase}
use Rattle.round_tables.specs.Weights.{position_weight}
use Rattle.table_parts.specs.PartTables.{AreLaidOut, flat_table, flat_scales, flat_shifts}
use Rattle.round_tables.specs.declared.layer_gates.LayerGates.{LayerGates}
use Rattle.round_tables.specs.declared.working.Working.{Working}
use Rattle.round_tables.specs.Working.{IsLayerGates, HasCapacities, IsBeginning, GathersPhase, Begins, WorksFor, bound_of, parts_of, place_of}
use Rattle.round_tables.proofs.PhaseSteps.{started, entered, length-count, left_weighed, right_weighed}
use Rattle.round_tables.proofs.LaidOut.{laid-size}
use Rattle.round_tables.proofs.PieceValues.{in_left_phase, in_right_phase}

pub no-values : (xs : List K) → length xs ≡ 0 → xs ≡ []
no-values [] e = refl
no-values (x ∷ xs) e = absurd (omega (arith, e))

-- none is bound, or as many as a phase has
pub none-or-all : (k : ℕ) (values : List K) (value : K) (bound : List K) → IsBeginning k values value bound → (length bound ≡ 0) ⊎ (length bound ≡ k)
none-or-all k values value [] b = inl refl
none-or-all k values value (r ∷ rs) b = inr b.0

-- a phase begins where all of the first are bound
pub all-bound : (k : ℕ) (values : List K) (value : K) (bound : List K) → 0 < length bound → length bound ≡ k → value ≡ extension_at k_ops k_ops (λ x. x) values bound → IsBeginning k values value bound
all-bound k values value [] u e v = absurd (omega (arith, u))
all-bound k values value (r ∷ rs) u e v = (e, v)

pub full : (k : ℕ) (values : List K) (value : K) (bound : List K) → 0 < length bound → IsBeginning k values value bound → length bound ≡ k
full k values value [] u b = absurd (omega (arith, u))
full k values value (r ∷ rs) u b = b.0

-- the whole of a phase is left where it begins
pub whole-left : (k n : ℕ) → 1 ≤ k → (n ≡ 0) ⊎ (n ≡ k) → left_in_phase k n ≡ k
whole-left k n least (inl e) = omega (arith, e, (in_left_phase k n (omega (arith, e, least))).0)
whole-left k n least (inr e) = omega (arith, e, (in_right_phase k n (omega (arith, e, least))).0)

module _ (k : ℕ) (gates : List CircuitGate) (values : List K) (place : Place K) (layer : IsLayer K k gates values place) where
  -- what is gathered in the first phase, and in the second
  pub first-phase : (weight : ℕ → K) (bound : List K) (from : ℕ) (scales shifts : List K) → bound ≡ [] → ((g : ℕ) → g < length gates → weight g ≡ position_weight k_ops place g) →
      GathersLeft K k_ops gates weight values from scales shifts → GathersPhase gates values place bound from scales shifts
  first-phase weight bound from scales shifts e same gathers =
      subst (λ (b : List K). GathersPhase gates values place b from scales shifts) (sym e)
      (left_weighed k_ops k_laws k gates values place layer.operands weight (position_weight k_ops place) from scales shifts same gathers)

  pub second-phase : (weight : ℕ → K) (value : K) (bound : List K) (from : ℕ) (scales shifts : List K) → 0 < length bound → IsBeginning k values value bound → ((g : ℕ) → g < length gates → weight g ≡ position_weight k_ops place g) →
      GathersRight K k_ops gates weight (eq_poly k_ops bound) value from scales shifts → GathersPhase gates values place bound from scales shifts
  second-phase weight value [] from scales shifts u b same gathers = absurd (omega (arith, u))
  second-phase weight value (r ∷ rs) from scales shifts u b same gathers =
      right_weighed k_ops k_laws k gates values place layer.operands weight (position_weight k_ops place) (eq_poly k_ops (r ∷ rs)) (extension_at k_ops k_ops (λ x. x) values (r ∷ rs)) from scales shifts same
      (subst (λ (v : K). GathersRight K k_ops gates weight (eq_poly k_ops (r ∷ rs)) v from scales shifts) b.1 gathers)

  -- the phase begins
  pub begun : (value : K) (bound table scales shifts : List K) → IsBeginning k values value bound → table ≡ values → length scales ≡ 2 ^ k → length shifts ≡ 2 ^ k →
      GathersPhase gates values place bound 0 scales shifts → IsPhase K k_ops k gates values place bound table scales shifts
  begun value [] table scales shifts b te ls lh gathers = started k_ops k_laws k gates values place layer (position_weight k_ops place) table scales shifts (λ g u. refl) te ls lh gathers
  begun value (r ∷ rs) table scales shifts b te ls lh gathers = entered k_ops k_laws k gates values place layer (r ∷ rs) b.0 (position_weight k_ops place) table scales shifts (λ g u. refl) te ls lh gathers

-- the tables of the phase that begins work for the layer
pub works-begun : (layer : LayerGates) (old new : Working) (value : K) → IsLayerGates layer → Begins layer old value → HasCapacities layer.k new → bound_of new ≡ bound_of old → new.count ≡ old.count →
    AreLaidOut layer.k layer.k (parts_of new) → flat_table (parts_of new) ≡ layer.values.now.items →
    GathersPhase layer.gates.now layer.values.now.items (place_of layer) (bound_of old) 0 (flat_scales (parts_of new)) (flat_shifts (parts_of new)) → WorksFor layer new
works-begun layer old new value is begins capacities same count laid table gathers =
    let k = layer.k in
    let n : length (bound_of old) ≡ old.count = length-count old.challenges.items k old.count (sym old.challenges.ok.0 ∙ begins.capacities.challenges) (omega (arith, begins.counted)) in
    let start : (old.count ≡ 0) ⊎ (old.count ≡ layer.k) = counted_at (none-or-all k layer.values.now.items value (bound_of old) begins.beginning) in
    let all : left_in_phase k new.count ≡ k = ap (left_in_phase k) count ∙ whole-left k old.count is.layer_is.least start in
    record {
      capacities = capacities;
      counted = omega (arith, count, begins.counted);
      laid = subst (λ (m : ℕ). AreLaidOut k m (parts_of new)) (sym all) laid;
      phase = subst (λ (b : List K). IsPhase K k_ops k layer.gates.now layer.values.now.items (place_of layer) b (flat_table (parts_of new)) (flat_scales (parts_of new)) (flat_shifts (parts_of new))) (sym same)
          (begun k layer.gates.now layer.values.now.items (place_of layer) is.layer_is value (bound_of old) (flat_table (parts_of new)) (flat_scales (parts_of new)) (flat_shifts (parts_of new)) begins.beginning table
          (laid-size k (parts_of new) (λ p. p.scales) laid (λ n p h. h.scales)) (laid-size k (parts_of new) (λ p. p.shifts) laid (λ n p h. h.shifts)) gathers);
    }
  where
    counted_at : (length (bound_of old) ≡ 0) ⊎ (length (bound_of old) ≡ layer.k) → (old.count ≡ 0) ⊎ (old.count ≡ layer.k)
    counted_at (inl e) = inl (sym (length-count old.challenges.items layer.k old.count (sym old.challenges.ok.0 ∙ begins.capacities.challenges) (omega (arith, begins.counted))) ∙ e)
    counted_at (inr e) = inr (sym (length-count old.challenges.items layer.k old.count (sym old.challenges.ok.0 ∙ begins.capacities.challenges) (omega (arith, begins.counted))) ∙ e)

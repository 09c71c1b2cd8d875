-- What holds of the structures that keep a layer's tables
use Rattle.std.specs.Prelude.{◌≡◌, ⊤, ℕ, ◌+◌, ◌-◌, ◌^◌, ◌≤◌, ◌<◌, true, false, IsTrue, List, [], ◌∷◌, ◌++◌, length, map, take, vec_len, if◌then◌else◌, All, Option, Some, None}
use Rattle.std.specs.declared.snapshot.Snapshot.{Snapshot}
use Rattle.field_ext.specs.Field.{K, k_ops, add_k}
use Rattle.circuit_core.specs.declared.gate.CircuitGate.{CircuitGate}
use Rattle.round_tables.specs.declared.layer_gates.LayerGates.{LayerGates}
use Rattle.round_tables.specs.declared.working.Working.{Working}
use Rattle.gkr_layers.specs.Places.{Place}
use Rattle.gkr_layers.specs.Places.Place.{At, AtBoth}
use Rattle.round_tables.specs.Weights.{position_weight, HasRows, product_at}
use Rattle.field_ext.specs.Multilinear.{eq_poly, extension_at, folded}
use Rattle.gate_gather.specs.Gathering.{GathersLeft, GathersRight}
use Rattle.table_parts.specs.PartTables.{PartTables, HasCapacity, cuts, flat_table, flat_scales, flat_shifts, folded_part, AreLaidOut}
use Rattle.round_tables.specs.LayerSum.{left_in_phase}
use Rattle.round_tables.specs.Phase.{IsLayer, IsPhase}

-- where the claim on the layer is
abbrev pub place_of : LayerGates → Place K
place_of layer = if layer.both then AtBoth layer.first.point.items layer.second.point.items
    layer.weight else At layer.first.point.items

-- the weights of its positions by the tables that are kept
abbrev pub weights_of : LayerGates → ℕ → K
weights_of layer = λ g. if layer.both then add_k (product_at layer.first g)
    (product_at layer.second g) else product_at layer.first g

-- the layer is one, and the weights of its positions are kept with it
pub record IsLayerGates (layer : LayerGates) : Type 0 where
  pub layer_is : IsLayer K layer.k layer.gates.now layer.values.now.items (place_of layer)
  pub weights : (g : ℕ) → g < length layer.gates.now
      → weights_of layer g ≡ position_weight k_ops (place_of layer) g
  pub first_rows : HasRows (length layer.gates.now) layer.first
  pub second_rows : IsTrue layer.both → HasRows (length layer.gates.now) layer.second

-- the challenges bound so far
abbrev pub bound_of : Working → List K
bound_of w = take w.count w.challenges.items

-- the parts in use: those of the phase, or the one that they were gathered into
abbrev pub parts_of : Working → List PartTables
parts_of w = if w.merged then w.one.items else w.many.items

-- there are buffers for two phases of k challenges
pub record HasCapacities (k : ℕ) (w : Working) : Type 0 where
  pub challenges : vec_len w.challenges ≡ k + k
  pub scales : vec_len w.scales ≡ 2 ^ k
  pub shifts : vec_len w.shifts ≡ 2 ^ k
  pub many : length w.many.items ≡ 2 ^ cuts k
  pub many_capacity : All (HasCapacity (2 ^ (k - cuts k))) w.many.items
  pub one : length w.one.items ≡ 1
  pub one_capacity : All (HasCapacity (2 ^ cuts k)) w.one.items

-- no challenge is bound yet, or all of the first phase are and this is the left operand's value
abbrev pub IsBeginning : ℕ → List K → K → List K → Type 0
IsBeginning k values value [] = ⊤
IsBeginning k values value (r ∷ rs) =
    (length (r ∷ rs) ≡ k) × (value ≡ extension_at k_ops k_ops (λ x. x) values (r ∷ rs))

-- what the gates give in the phase that begins, to the places from `from` on
abbrev pub GathersPhase : List CircuitGate → List K → Place K → List K → ℕ → List K → List K
    → Type 0
GathersPhase gates values place [] from scales shifts =
    GathersLeft K k_ops gates (position_weight k_ops place) values from scales shifts
GathersPhase gates values place (r ∷ rs) from scales shifts =
    GathersRight K k_ops gates (position_weight k_ops place) (eq_poly k_ops (r ∷ rs))
    (extension_at k_ops k_ops (λ x. x) values (r ∷ rs)) from scales shifts

-- a phase begins, for which there are buffers
pub record Begins (layer : LayerGates) (w : Working) (value : K) : Type 0 where
  pub capacities : HasCapacities layer.k w
  pub counted : w.count ≤ layer.k
  pub beginning : IsBeginning layer.k layer.values.now.items value (bound_of w)

-- with m coordinates of the phase left, the tables are laid out in parts
pub record WorksFor (layer : LayerGates) (w : Working) : Type 0 where
  pub capacities : HasCapacities layer.k w
  pub counted : w.count ≤ layer.k + layer.k
  pub laid : AreLaidOut layer.k (left_in_phase layer.k w.count) (parts_of w)
  pub phase : IsPhase K k_ops layer.k layer.gates.now layer.values.now.items (place_of layer)
      (bound_of w) (flat_table (parts_of w)) (flat_scales (parts_of w)) (flat_shifts (parts_of w))

-- all but the parts in use is the same
pub record AreSameCapacities (old new : Working) : Type 0 where
  pub challenges : new.challenges ≡ old.challenges
  pub count : new.count ≡ old.count
  pub scales : new.scales ≡ old.scales
  pub shifts : new.shifts ≡ old.shifts
  pub merged : new.merged ≡ old.merged
  pub many : old.merged ≡ true → new.many ≡ old.many
  pub one : old.merged ≡ false → new.one ≡ old.one

-- all but the parts in use is the same, and these are folded by r
pub record AreFolded (old : Working) (r : K) (new : Working) : Type 0 where
  pub others : AreSameCapacities old new
  pub parts : parts_of new ≡ map (folded_part r) (parts_of old)

-- r is noted, and the tables are folded by it
pub record IsAdvanced (k : ℕ) (old : Working) (r : K) (new : Working) : Type 0 where
  pub capacities : HasCapacities k new
  pub bound : bound_of new ≡ bound_of old ++ r ∷ []
  pub count : new.count ≡ old.count + 1
  pub laid : AreLaidOut k (left_in_phase k old.count - 1) (parts_of new)
  pub table : flat_table (parts_of new) ≡ folded k_ops (flat_table (parts_of old)) r
  pub scales : flat_scales (parts_of new) ≡ folded k_ops (flat_scales (parts_of old)) r
  pub shifts : flat_shifts (parts_of new) ≡ folded k_ops (flat_shifts (parts_of old)) r

-- the parts that are lent, if any, by the tables as they were then
abbrev pub lent_parts : Option (Snapshot Working) → List PartTables
lent_parts None = []
lent_parts (Some old) = parts_of old.value

-- the tables stand for the layer's sum, or did so when their parts were lent, since when nothing else was changed
abbrev pub WorksOrLent : LayerGates → Working → Option (Snapshot Working) → Type 0
WorksOrLent layer w None = WorksFor layer w
WorksOrLent layer w (Some old) = WorksFor layer old.value × AreSameCapacities old.value w

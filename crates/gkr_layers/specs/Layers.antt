-- The layers of a circuit, the equations of all layers, and the exceptional challenges, over flat lists of messages and challenges
use Rattle.std.specs.Prelude.{◌≡◌, ℕ, ◌+◌, ◌-◌, ◌^◌, List, [], ◌∷◌, length, map, take, drop, slice_index_or, All, nat_lt, nat_eq, MatchBool}
use Rattle.field_ext.specs.Ring.{Ops}
use Rattle.field_ext.specs.Polynomial.{value_at}
use Rattle.circuit_core.specs.declared.gate.CircuitGate.{CircuitGate}
use Rattle.circuit_core.specs.Parts as parts
use Rattle.circuit_core.specs.Parts.{Parts}
use Rattle.circuit_core.specs.Sound.{exponent_at}
use Rattle.wiring_poly.specs.Wiring.{values_above}
use Rattle.gkr_layers.specs.Places.{Place, value_over, weighted_summand_from}
use Rattle.proof_wire.specs.declared.form.ProofForm.{ProofForm}
use Rattle.gkr_layers.specs.Forms.{said_left, said_right, last_polynomial, place_between}
use Rattle.gkr_layers.specs.Sumcheck.{round_polynomial, IsExceptionalFor, RoundsHold}

-- the gates of a layer, over 2 ^ k positions of the layer below
pub record GateLayer : Type 0 where
  pub k : ℕ
  pub gates : List CircuitGate

-- these layers of a circuit, the first of which is layer i
abbrev pub layers_from : Parts → ℕ → List (List CircuitGate) → List GateLayer
layers_from p i [] = []
layers_from p i (gates ∷ layers) =
    record { k = exponent_at p (i + 1); gates = gates } ∷ layers_from p (i + 1) layers

-- the layers of a circuit above the input, that of the outputs first
abbrev pub layers_of : Parts → List GateLayer
layers_of p = layers_from p 0 p.layers

-- layer i of a circuit
abbrev pub layer_at : Parts → ℕ → GateLayer
layer_at p i = record { k = exponent_at p (i + 1); gates = slice_index_or p.layers i [] }

-- the layers of a circuit from layer i on, without the input
abbrev pub layers_below : Parts → ℕ → List GateLayer
layers_below p i = layers_from p i (drop i p.layers)

module _ {A : Type 0} (o : Ops A) where
  -- the values of the first layer, from those of the input layer
  abbrev pub values_over : List GateLayer → List A → List A
  values_over [] input = input
  values_over (layer ∷ layers) input = values_above o layer.gates (values_over layers input)

module _ {A : Type 0} (o : Ops A) (form : ProofForm) where
  -- where the next claim is, for the layer's challenges
  abbrev pub next_place : ℕ → List A → Place A
  next_place k rs = place_between o form (take k (take (k + k) rs)) (drop k (take (k + k) rs))
      (slice_index_or rs (k + k) o.zero)

  -- Every equation holds. Each layer takes 2 k messages of rounds and a last one, and a challenge after each.
  abbrev pub LayersHold : List GateLayer → List A → Place A → A → List (List A) → List A → Type 0
  LayersHold [] input place claim qs rs = claim ≡ value_over o input place
  LayersHold (layer ∷ layers) input place claim qs rs =
      let k = layer.k in
      let q = slice_index_or qs (k + k) [] in
      RoundsHold o claim (take (k + k) qs) (take (k + k) rs)
      (weighted_summand_from o layer.gates place (take k (take (k + k) rs))
      (drop k (take (k + k) rs)) (said_left o form q) (said_right o form q))
      × LayersHold layers input (next_place k rs) (value_at o q (slice_index_or rs (k + k) o.zero))
      (drop (k + k + 1) qs) (drop (k + k + 1) rs)

  -- v is exceptional as challenge n
  abbrev pub IsExceptional : List GateLayer → List A → Place A → List (List A) → List A → ℕ → A
      → Type 0
  IsExceptional [] input place qs rs n v = ⊥
  IsExceptional (layer ∷ layers) input place qs rs n v =
      let k = layer.k in
      let t = values_over o layers input in
      MatchBool (nat_lt n (k + k))
      (IsExceptionalFor o (slice_index_or qs n [])
      (round_polynomial o k layer.gates t place (take n rs) (k + k - 1 - n)) v)
      (MatchBool (nat_eq n (k + k))
      (IsExceptionalFor o (slice_index_or qs n [])
      (last_polynomial o form t (take k (take (k + k) rs)) (drop k (take (k + k) rs))) v)
      (IsExceptional layers input (next_place k rs) (drop (k + k + 1) qs) (drop (k + k + 1) rs)
      (n - (k + k + 1)) v))

-- the numbers of coordinates of the layers below, one for each layer
abbrev pub lower_exponents : List GateLayer → List ℕ
lower_exponents layers = map (λ layer. layer.k) layers

-- the layers' sizes fit together, from a first layer of 2 ^ j positions on
abbrev pub FitTogether : ℕ → List GateLayer → Type 0
FitTogether j [] = Unit {0}
FitTogether j (layer ∷ layers) =
    (length layer.gates ≡ 2 ^ j) × All (parts.IsOver (2 ^ layer.k)) layer.gates
    × FitTogether layer.k layers

-- how many messages the layers take, and how many challenges after them
abbrev pub message_count : List GateLayer → ℕ
message_count [] = 0
message_count (layer ∷ layers) = (layer.k + layer.k + 1) + message_count layers

-- how many challenges the proof of a circuit takes: the coordinates of the output point, and one after each message
abbrev pub challenges_of : Parts → ℕ
challenges_of p = exponent_at p 0 + message_count (layers_of p)

-- the coordinates of the layers below the outputs, together
abbrev pub total_exponent : List GateLayer → ℕ
total_exponent [] = 0
total_exponent (layer ∷ layers) = layer.k + total_exponent layers

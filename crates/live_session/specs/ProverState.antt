-- How far a prover has come
use Rattle.std.specs.Prelude.{◌≡◌, ℕ, ◌+◌, ◌<◌, ◌≤◌, List, [], ◌++◌, length, take, drop, slice_index_or}
use Rattle.field_ext.specs.Field.{F, K, k_ops}
use Rattle.circuit_core.specs.Parts.{Parts, height, input_table}
use Rattle.circuit_core.specs.Sound.{exponent_at}
use Rattle.gkr_layers.specs.Layers.{challenges_of, layer_at, layers_below, layers_of, values_over}
use Rattle.gkr_layers.specs.Places.{Place, IsOver}
use Rattle.gkr_layers.specs.Places.Place.{At}
use Rattle.round_tables.specs.LayerSum.{LayerSum}
use Rattle.live_session.specs.Proving.{honest_for, honest_messages, layer_messages, message_bytes}
use Rattle.live_session.specs.declared.course.Course.{Course}
use Rattle.live_session.specs.declared.course.Stage.{Stage}
use Rattle.live_session.specs.declared.course.Stage.TheVariants.{Before, Within, After}

-- the values of the layer below layer i
abbrev pub values_below : Parts → List F → ℕ → List K
values_below p inputs i = values_over k_ops (layers_below p (i + 1)) (input_table p inputs)

-- a layer's tables, where its claim is at this place
abbrev pub tables_at : Parts → List F → ℕ → Place K → List K → LayerSum
tables_at p inputs i place bound = record {
  k = exponent_at p (i + 1);
  gates = slice_index_or p.layers i [];
  values = values_below p inputs i;
  place = place;
  bound = bound;
  lent = [];
}

-- after these words the prover is within layer i: those in `done` were for the layers before it, whose messages are in `prefix`
pub record IsWithin (p : Parts) (inputs : List F) (words : List K) (i base : ℕ) (sent : List ℕ)
    (tables : LayerSum) : Type 0 where
  pub done : List K
  pub prefix : List (List K)
  pub place : Place K
  pub above : i < height p
  pub drawn : exponent_at p 0 ≤ length words
  pub split : drop (exponent_at p 0) words ≡ done ++ tables.bound
  pub begins : base ≡ exponent_at p 0 + length done
  pub each : length prefix ≡ length done
  pub position : IsOver (exponent_at p i) place
  pub tables_are : tables ≡ tables_at p inputs i place tables.bound
  pub few : length tables.bound ≤ tables.k + tables.k
  pub whole : (more : List K)
      → honest_messages (layers_of p) (input_table p inputs) (At (take (exponent_at p 0) words))
      (done ++ more)
      ≡ prefix ++ honest_messages (layers_below p i) (input_table p inputs) place more
  pub sent_is : sent ≡ message_bytes (prefix ++ take (length tables.bound + 1)
      (layer_messages (layer_at p i) (values_below p inputs i) place tables.bound))

-- all messages are sent
pub record IsAfter (p : Parts) (inputs : List F) (words : List K) (sent : List ℕ) : Type 0 where
  pub all : length words ≡ challenges_of p
  pub sent_is : sent ≡ message_bytes (honest_for p inputs words)

-- the output point isn't drawn yet
pub record IsBefore (p : Parts) (words : List K) (sent : List ℕ) : Type 0 where
  pub few : length words < exponent_at p 0
  pub nothing : sent ≡ []

abbrev pub IsStage : Parts → List F → List K → ℕ → ℕ → List ℕ → Stage → Type 0
IsStage p inputs words i base sent (Before buffers) = IsBefore p words sent
IsStage p inputs words i base sent (Within tables) = IsWithin p inputs words i base sent tables
IsStage p inputs words i base sent After = IsAfter p inputs words sent

-- these words were gone through
abbrev pub IsAt : Parts → List F → List K → Course → Type 0
IsAt p inputs words course =
    IsStage p inputs words course.layer course.base course.sent.items course.stage

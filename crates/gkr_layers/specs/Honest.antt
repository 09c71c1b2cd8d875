-- Honest messages
use Rattle.std.specs.Prelude.{◌≡◌, ℕ, ◌+◌, ◌-◌, ◌<◌, List, [], ◌∷◌, take, drop, slice_index_or}
use Rattle.field_ext.specs.Field.{F, K, k_ops}
use Rattle.field_ext.specs.Polynomial.{coefficients}
use Rattle.circuit_core.specs.declared.gate.CircuitGate.{CircuitGate}
use Rattle.circuit_core.specs.Parts.{Parts, input_table}
use Rattle.circuit_core.specs.Sound.{exponent_at}
use Rattle.transcript_fs.specs.Source.{Source, point_draws, state_after_point, draws}
use Rattle.gkr_layers.specs.Places.{Place}
use Rattle.gkr_layers.specs.Places.Place.{At}
use Rattle.proof_wire.specs.declared.form.ProofForm.{ProofForm}
use Rattle.proof_wire.specs.Forms.{last_degree}
use Rattle.gkr_layers.specs.Forms.{last_polynomial}
use Rattle.proof_wire.specs.declared.form.ProofForm.TheVariants.{Line}
use Rattle.gkr_layers.specs.Sumcheck.{round_polynomial}
use Rattle.gkr_layers.specs.Layers.{GateLayer, layers_of, values_over, next_place}

-- each of n rounds' messages is the true polynomial at the challenges before it
abbrev pub AreHonestRounds : ℕ → List CircuitGate → List K → Place K → ℕ → List (List K) → List K
    → Type 0
AreHonestRounds k gates values place n qs rs =
    (j : ℕ) → j < n → slice_index_or qs j [] ≡ coefficients k_ops 3
    (round_polynomial k_ops k gates values place (take j rs) (k + k - j - 1))

-- The messages of a layer are its true polynomials at the challenges before them: two for each of the k coordinates, and the last.
pub record IsHonestLayer (form : ProofForm) (k : ℕ) (gates : List CircuitGate) (values : List K)
    (place : Place K) (qs : List (List K)) (rs : List K) : Type 0 where
  pub rounds : AreHonestRounds k gates values place (k + k) qs rs
  pub last : slice_index_or qs (k + k) [] ≡ coefficients k_ops (last_degree form k + 1)
      (last_polynomial k_ops form values (take k (take (k + k) rs)) (drop k (take (k + k) rs)))

-- the messages of all layers are honest, each at the place that the challenges before lead to
abbrev pub AreHonest : ProofForm → List GateLayer → List K → Place K → List (List K) → List K → Type 0
AreHonest form [] input place qs rs = Unit {0}
AreHonest form (layer ∷ layers) input place qs rs =
    IsHonestLayer form layer.k layer.gates (values_over k_ops layers input) place qs rs
    × AreHonest form layers input (next_place k_ops form layer.k rs)
    (drop (layer.k + layer.k + 1) qs) (drop (layer.k + layer.k + 1) rs)

-- The messages of a circuit on these inputs are honest, where challenges come from this source in this state: first the coordinates of
-- the output point, then one after each message.
abbrev pub AreHonestMessages : ProofForm → Parts → List F → Source → List ℕ → List (List K) → Type 0
AreHonestMessages form p inputs source s qs =
    let k = exponent_at p 0 in
    AreHonest form (layers_of p) (input_table p inputs) (At (point_draws source s k)) qs
    (draws source (state_after_point source s k) qs)

-- the same by lines
abbrev pub IsHonestProof : Parts → List F → Source → List ℕ → List (List K) → Type 0
IsHonestProof p inputs source s qs = AreHonestMessages Line p inputs source s qs

-- What is claimed of a circuit, and the verifier's answer
use Rattle.std.specs.Prelude.{ℕ, ◌+◌, List, map, take, drop}
use Rattle.field_ext.specs.Field.{F, K, k_ops, embed_k}
use Rattle.circuit_core.specs.Parts.{Parts, width_of, padded_values, input_table}
use Rattle.circuit_core.specs.Sound.{exponent_at}
use Rattle.transcript_fs.specs.Source.{Source, point_draws, state_after_point, draws}
use Rattle.gkr_layers.specs.declared.verdict.Verdict.{Verdict}
use Rattle.gkr_layers.specs.Places.{Place, value_over}
use Rattle.gkr_layers.specs.Places.Place.{At}
use Rattle.proof_wire.specs.declared.form.ProofForm.{ProofForm}
use Rattle.proof_wire.specs.declared.form.ProofForm.TheVariants.{Line}
use Rattle.gkr_layers.specs.Layers.{GateLayer, layers_of, values_over, LayersHold, message_count}
use Rattle.gkr_layers.specs.Equations.{equations, first_failure, Answered, answer}

-- that the layers, of which the first has 2 ^ k positions, over this table of the input layer give the claimed table, as messages of
-- this form are to show
pub record CircuitClaim : Type 0 where
  pub form : ProofForm
  pub k : ℕ
  pub layers : List GateLayer
  pub input_table : List K
  pub claimed_table : List K

-- That a circuit on these inputs has these outputs. The claimed output layer is 0, the outputs and zeros.
abbrev pub claim_in : ProofForm → Parts → List F → List F → CircuitClaim
claim_in form p inputs outputs = record {
  form = form;
  k = exponent_at p 0;
  layers = layers_of p;
  input_table = input_table p inputs;
  claimed_table = map embed_k (padded_values (width_of p 0) outputs);
}

-- the same by lines
abbrev pub claim_of : Parts → List F → List F → CircuitClaim
claim_of p inputs outputs = claim_in Line p inputs outputs

-- the values that the output layer has
abbrev pub true_table : CircuitClaim → List K
true_table stated = values_over k_ops stated.layers stated.input_table

-- how many challenges there are
abbrev pub challenge_count : CircuitClaim → ℕ
challenge_count stated = stated.k + message_count stated.layers

-- the claim on the outputs is at the point of the first challenges
abbrev pub output_place : CircuitClaim → List K → Place K
output_place stated rs = At (take stated.k rs)

-- Every equation holds, one after another, for these messages and challenges, of which the first are the coordinates of the output
-- point.
abbrev pub Accepts : CircuitClaim → List (List K) → List K → Type 0
Accepts stated qs rs =
    let place = output_place stated rs in
    LayersHold k_ops stated.form stated.layers stated.input_table place
    (value_over k_ops stated.claimed_table place) qs (drop stated.k rs)

-- The answer for these messages and challenges: the first equation that fails, or none.
abbrev pub verdict_of : CircuitClaim → List (List K) → List K → Verdict
verdict_of stated qs rs =
    let place = output_place stated rs in
    first_failure (equations stated.form 0 stated.layers stated.input_table place
    (value_over k_ops stated.claimed_table place) qs (drop stated.k rs))

-- The same answer and the state in which it leaves the challenges, where these come from a source: first the coordinates of the output
-- point are drawn, then each message is taken in once its equation holds.
abbrev pub answer_from : CircuitClaim → Source → List ℕ → List (List K) → Answered
answer_from stated source s qs =
    let place = At (point_draws source s stated.k) in
    let after = state_after_point source s stated.k in
    answer source after (equations stated.form 0 stated.layers stated.input_table place
    (value_over k_ops stated.claimed_table place) qs (draws source after qs)) qs

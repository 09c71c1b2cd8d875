-- Honest messages are accepted
use Rattle.std.proofs.Common.{◌≡◌, ℕ, List, length, map, take, drop, sym, ◌∙◌, ap}
use Rattle.field_ext.specs.Field.{F, K, k_ops, embed_k}
use Rattle.circuit_core.specs.Parts.{layer_values, leaf_value, padded_values}
use Rattle.circuit_core.specs.Sound.{SoundCircuit, exponents}
use Rattle.transcript_fs.specs.Source.{Source, point_draws, state_after_point, draws, all_draws}
use Rattle.transcript_fs.proofs.api.Draws.{length-draws, length-coordinates, point_front, point_rest}
use Rattle.proof_wire.specs.declared.messages.Messages.{Messages}
use Rattle.proof_wire.specs.Lists.{all_messages, HaveShape}
use Rattle.gkr_layers.specs.declared.verdict.Verdict.TheVariants.{Accepted}
use Rattle.gkr_layers.specs.Places.{value_over}
use Rattle.gkr_layers.specs.Places.Place.{At}
use Rattle.proof_wire.specs.declared.form.ProofForm.{ProofForm}
use Rattle.gkr_layers.specs.Layers.{FitTogether, message_count}
use Rattle.gkr_layers.specs.Equations.{equations, first_failure}
use Rattle.gkr_layers.specs.Acceptance.{CircuitClaim, claim_in, true_table, verdict_of}
use Rattle.gkr_layers.specs.Honest.{AreHonest, AreHonestMessages}
use Rattle.gkr_layers.proofs.api.Accepted.{layers_accepted}
use Rattle.gkr_layers.proofs.Complete.{honest_hold}
use Rattle.gkr_layers.proofs.api.Circuits.{layers_fit, over-embed}
use Rattle.gkr_layers.proofs.api.Outputs.{outputs_padded}
use Rattle.gkr_layers.proofs.api.Shapes.{have_shape, length-all}

-- of layers whose claimed table is the true one
pub honest_accepted : (stated : CircuitClaim) (source : Source) (s : List ℕ) (qs : List (List K)) → FitTogether stated.k stated.layers → length qs ≡ message_count stated.layers → stated.claimed_table ≡ true_table stated →
    AreHonest stated.form stated.layers stated.input_table (At (point_draws source s stated.k)) qs (draws source (state_after_point source s stated.k) qs) → verdict_of stated qs (all_draws source s stated.k qs) ≡ Accepted
honest_accepted stated source s qs fits size are honest =
    let form : ProofForm = stated.form in
    let k : ℕ = stated.k in
    let z : List K = point_draws source s k in
    let rest : List K = draws source (state_after_point source s k) qs in
    (λ i. first_failure (equations form 0 stated.layers stated.input_table (At (point_front source s k rest i)) (value_over k_ops stated.claimed_table (At (point_front source s k rest i))) qs (point_rest source s k rest i)))
    ∙ (λ i. first_failure (equations form 0 stated.layers stated.input_table (At z) (value_over k_ops (are i) (At z)) qs rest))
    ∙ layers_accepted form 0 stated.layers stated.input_table (At z) (value_over k_ops (true_table stated) (At z)) qs rest
    (honest_hold form k stated.layers stated.input_table (At z) qs rest (length-coordinates source s k) fits size (length-draws source (state_after_point source s k) qs ∙ size) honest)

-- of a circuit that has the claimed outputs
pub honest_of_circuit : (form : ProofForm) (c : SoundCircuit) (inputs outputs : List F) (source : Source) (s : List ℕ) (qs : List (List K)) → length outputs ≡ c.parts.outputs →
    outputs ≡ take (length outputs) (drop 1 (layer_values c.parts inputs 0)) → let stated = claim_in form c.parts inputs outputs in length qs ≡ message_count stated.layers →
    AreHonestMessages form c.parts inputs source s qs → verdict_of stated qs (all_draws source s stated.k qs) ≡ Accepted
honest_of_circuit form c inputs outputs source s qs count are size honest =
    let stated : CircuitClaim = claim_in form c.parts inputs outputs in
    let claimed : stated.claimed_table ≡ true_table stated =
    ap (map embed_k) (sym (outputs_padded c inputs outputs count are)) ∙ over-embed c.parts 0 c.parts.layers (padded_values c.parts.input_width (map (leaf_value inputs) c.parts.leaves)) in
    honest_accepted stated source s qs (layers_fit c) size claimed honest

-- of the messages of a proof
pub honest_proof : (form : ProofForm) (c : SoundCircuit) (inputs outputs : List F) (source : Source) (s : List ℕ) (messages : Messages) → length outputs ≡ c.parts.outputs →
    outputs ≡ take (length outputs) (drop 1 (layer_values c.parts inputs 0)) → HaveShape form (drop 1 (exponents c.parts)) messages.layers →
    let stated = claim_in form c.parts inputs outputs in let qs = all_messages messages.layers in
    AreHonestMessages form c.parts inputs source s qs → verdict_of stated qs (all_draws source s stated.k qs) ≡ Accepted
honest_proof form c inputs outputs source s messages count are shape honest =
    let stated : CircuitClaim = claim_in form c.parts inputs outputs in
    honest_of_circuit form c inputs outputs source s (all_messages messages.layers) count are (length-all form stated.layers messages.layers (have_shape form c.parts messages shape)) honest

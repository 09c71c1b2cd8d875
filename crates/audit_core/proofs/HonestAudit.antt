-- The audit of honest messages of the circuit's own outputs names nothing
use Rattle.std.proofs.Common.{◌≡◌, ℕ, List, None, length, take, drop, map, refl, sym, ap, arith}
use Rattle.field_ext.specs.Field.{F, K, k_ops}
use Rattle.circuit_core.specs.Parts.{leaf_value, padded_values, input_table}
use Rattle.circuit_core.specs.Sound.{SoundCircuit, exponent_at, exponents}
use Rattle.circuit_eval.specs.Tables.{table_of}
use Rattle.transcript_fs.specs.Source.{Source, point_draws, state_after_point, draws, all_draws}
use Rattle.transcript_fs.proofs.api.Draws.{point_front, point_rest}
use Rattle.proof_wire.specs.declared.form.ProofForm.{ProofForm}
use Rattle.proof_wire.specs.declared.messages.Messages.{Messages}
use Rattle.proof_wire.specs.Lists.{all_messages, HaveShape}
use Rattle.gkr_layers.specs.Places.Place.{At}
use Rattle.gkr_layers.specs.Sumcheck.{difference}
use Rattle.gkr_layers.specs.Layers.{layers_of, lower_exponents, challenges_of}
use Rattle.gkr_layers.specs.Acceptance.{CircuitClaim, claim_in}
use Rattle.gkr_layers.specs.Honest.{AreHonest, AreHonestMessages}
use Rattle.gkr_layers.proofs.api.Circuits.{over-embed}
use Rattle.gkr_layers.proofs.api.Honest.{honest_proof}
use Rattle.gkr_layers.proofs.api.Shapes as shapes
use Rattle.audit_core.specs.declared.found.Found.{Found}
use Rattle.audit_core.specs.Audit.{AreOutputs, IsAuditOf, names_nothing}
use Rattle.audit_core.specs.Found.{IsFoundBelow}
use Rattle.audit_core.proofs.Difference.{zero_from}
use Rattle.audit_core.proofs.Folding.{zeros_stay}
use Rattle.audit_core.proofs.Whole.{message_named, challenge_named}

-- nothing differs from itself
abbrev nothing : Found
nothing = record { message = None; challenge = None }

found_nothing : (qs : List (List K)) (rs : List K) (count : ℕ) → IsFoundBelow qs qs rs count nothing
found_nothing qs rs count = record { message = λ n u differs. differs refl; challenge = λ n u passes. passes.0 refl }

pub honest_audit : (form : ProofForm) (c : SoundCircuit) (inputs outputs : List F) (source : Source) (s : List ℕ) (messages : Messages) → length outputs ≡ c.parts.outputs → AreOutputs c.parts inputs outputs →
    HaveShape form (drop 1 (exponents c.parts)) messages.layers → AreHonestMessages form c.parts inputs source s (all_messages messages.layers) →
    IsAuditOf form c.parts inputs outputs (all_messages messages.layers) (all_draws source s (exponent_at c.parts 0) (all_messages messages.layers)) names_nothing
honest_audit form c inputs outputs source s messages count are shape honest =
    let k : ℕ = exponent_at c.parts 0 in
    let stated : CircuitClaim = claim_in form c.parts inputs outputs in
    let qs : List (List K) = all_messages messages.layers in
    let point : List K = point_draws source s k in
    let rest : List K = draws source (state_after_point source s k) qs in
    let rs : List K = all_draws source s k qs in
    let have : HaveShape form (lower_exponents (layers_of c.parts)) messages.layers = shapes.have_shape form c.parts messages shape in
    let size : length (all_draws source s (exponent_at c.parts 0) (all_messages messages.layers)) ≡ challenges_of c.parts = shapes.drawn form c.parts inputs outputs source s messages shape in
    let true_there : AreHonest form (layers_of c.parts) (input_table c.parts inputs) (At (take k rs)) qs (drop k rs) =
    coe 1 0 (i. AreHonest form (layers_of c.parts) (input_table c.parts inputs) (At (point_front source s k rest i)) qs (point_rest source s k rest i)) honest in
    let d : List K = difference k_ops stated.claimed_table (table_of c.parts inputs 0) in
    let truly = ap (difference k_ops stated.claimed_table) (over-embed c.parts 0 c.parts.layers (padded_values c.parts.input_width (map (leaf_value inputs) c.parts.leaves))) in
    let found = found_nothing qs (drop k rs) (length qs) in
    record {
      verdict = sym (honest_proof form c inputs outputs source s messages count are shape honest);
      same = (λ t. are, λ h. refl);
      message = message_named form c inputs outputs messages.layers messages.layers rs nothing have have true_there found;
      challenge =
          challenge_named form c inputs outputs messages.layers messages.layers rs nothing have have true_there found d None truly (omega (arith, size))
          (λ n u h. h.0 (zeros_stay d (take n (take k rs)) (zero_from c inputs outputs count d refl are)));
    }

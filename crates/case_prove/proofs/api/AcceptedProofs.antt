-- The verdict on a case is that it is accepted exactly where its proof meets every equation
use Rattle.std.proofs.Common.{ℕ, List, sym}
use Rattle.field_ext.specs.Field.{K}
use Rattle.circuit_core.specs.Sound.{exponent_at}
use Rattle.proof_wire.specs.Lists.{all_messages}
use Rattle.transcript_fs.specs.Source.{all_draws}
use Rattle.transcript_fs.specs.Transcript.{transcript}
use Rattle.gkr_layers.specs.declared.verdict.Verdict.TheVariants.{Accepted}
use Rattle.gkr_layers.specs.Layers.{layers_of}
use Rattle.gkr_layers.specs.Acceptance.{CircuitClaim, claim_in}
use Rattle.gkr_layers.proofs.api.Accepted.{accepted_exactly}
use Rattle.gkr_layers.proofs.api.Shapes.{have_shape, length-all, drawn}
use Rattle.case_text.specs.Content.{Content}
use Rattle.case_prove.specs.Started.{start_of}
use Rattle.case_prove.specs.Verified.{HasAcceptedProof, IsVerdictOn}

pub meets : (c : Content) → IsVerdictOn c Accepted → HasAcceptedProof c
meets c is =
    let stated : CircuitClaim = claim_in is.form is.parts c.inputs is.outputs in
    let qs : List (List K) = all_messages is.messages.layers in
    let start : List ℕ = start_of is.form c.program c.inputs is.outputs in
    let rs : List K = all_draws transcript start (exponent_at is.parts 0) qs in
    let size = length-all is.form (layers_of is.parts) is.messages.layers (have_shape is.form is.parts is.messages is.of_shape) in
    let count = drawn is.form is.parts c.inputs is.outputs transcript start is.messages is.of_shape in
    record {
      parts = is.parts;
      outputs = is.outputs;
      claim = is.claim;
      as_many = is.as_many;
      form = is.form;
      messages = is.messages;
      of_shape = is.of_shape;
      spelled = is.spelled;
      accepts = (accepted_exactly stated qs rs size count).0 (sym is.verdict_is);
    }

pub verdict_on : (c : Content) → HasAcceptedProof c → IsVerdictOn c Accepted
verdict_on c has =
    let stated : CircuitClaim = claim_in has.form has.parts c.inputs has.outputs in
    let qs : List (List K) = all_messages has.messages.layers in
    let start : List ℕ = start_of has.form c.program c.inputs has.outputs in
    let rs : List K = all_draws transcript start (exponent_at has.parts 0) qs in
    let size = length-all has.form (layers_of has.parts) has.messages.layers (have_shape has.form has.parts has.messages has.of_shape) in
    let count = drawn has.form has.parts c.inputs has.outputs transcript start has.messages has.of_shape in
    record {
      parts = has.parts;
      outputs = has.outputs;
      claim = has.claim;
      as_many = has.as_many;
      form = has.form;
      messages = has.messages;
      of_shape = has.of_shape;
      spelled = has.spelled;
      verdict_is = sym ((accepted_exactly stated qs rs size count).1 has.accepts);
    }

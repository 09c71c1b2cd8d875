-- What the prover says of a case: the case with its outputs and the proof of them.
use Rattle.std.specs.Prelude.{◌≡◌, List, drop, Some}
use Rattle.field_ext.specs.Field.{F}
use Rattle.circuit_core.specs.Parts.{Parts}
use Rattle.circuit_core.specs.Sound.{exponents}
use Rattle.proof_wire.specs.declared.messages.Messages.{Messages}
use Rattle.proof_two.specs.declared.kind.ProofKind.{ProofKind}
use Rattle.proof_two.specs.Kinds.{form_in, kind_spelling}
use Rattle.transcript_fs.specs.Transcript.{transcript}
use Rattle.proof_wire.specs.Lists.{all_messages, HaveShape}
use Rattle.gkr_layers.specs.Honest.{AreHonestMessages}
use Rattle.arr_compile.specs.Circuits.{IsCompiled}
use Rattle.case_text.specs.Content.{Content}
use Rattle.case_prove.specs.Evaluated.{IsEvaluated}
use Rattle.case_prove.specs.Started.{start_of}

-- The case's program has a circuit, its meaning on the case's inputs are these outputs, and the second case is the first with these
-- outputs and, as a proof of this kind, the honest messages of the kind's form for the challenges of the transcript of program, inputs
-- and outputs.
pub record IsProved (kind : ProofKind) (c proved : Content) : Type 0 where
  pub parts : Parts
  pub compiled : IsCompiled c.lang c.program parts
  pub outputs : List F
  pub evaluated : IsEvaluated c outputs
  pub messages : Messages
  pub of_shape : HaveShape (form_in kind) (drop 1 (exponents parts)) messages.layers
  pub honest : AreHonestMessages (form_in kind) parts c.inputs transcript
      (start_of (form_in kind) c.program c.inputs outputs) (all_messages messages.layers)
  pub proved_is : proved ≡ record {
    lang = c.lang;
    program = c.program;
    inputs = c.inputs;
    outputs = Some outputs;
    proof = Some (kind_spelling kind messages);
  }

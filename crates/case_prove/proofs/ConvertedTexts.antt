-- The text of what is converted: that it spells the case, and how long it is at most.
use Rattle.std.proofs.Common.{◌≡◌, ◌∙◌, ◌<◌, ◌≤◌, List, Option, Some, length, sym, subst, ap, arith}
use Rattle.field_ext.specs.Field.{F}
use Rattle.circuit_core.specs.Sound.{SoundCircuit}
use Rattle.proof_two.specs.declared.kind.ProofKind.TheVariants.{ByLines}
use Rattle.proof_two.specs.declared.kind.ProofVersion.{ProofVersion}
use Rattle.proof_two.specs.Kinds.{kind_spelling}
use Rattle.case_text.specs.Content.{Content, Fits}
use Rattle.case_text.specs.Spelling.{Spells, lower_case_text}
use Rattle.case_text.specs.declared.case.form.Form.TheVariants.{Full}
use Rattle.case_prove.specs.Converted.{IsConverted}
use Rattle.case_prove.proofs.api.ProvedOutputs.{sound}
use Rattle.case_prove.proofs.ProvedSizes.{HaveFewOutputs, fits, kind_length}
use Rattle.case_prove.proofs.ProvedText.{short, spells}

-- the case that is written has outputs
with_outputs : (version : ProofVersion) (c d : Content) (is : IsConverted version c d)
    → d ≡ record { lang = c.lang; program = c.program; inputs = c.inputs; outputs = Some is.outputs; proof = Some (kind_spelling (ByLines version) is.messages) }
with_outputs version c d is =
    is.written_is
    ∙ ap (λ (o : Option (List F)). record { lang = c.lang; program = c.program; inputs = c.inputs; outputs = o; proof = Some (kind_spelling (ByLines version) is.messages) }) is.proof.claim.outputs_are

pub converted_spells : HaveFewOutputs → (version : ProofVersion) (c d : Content) → Fits c → IsConverted version c d → Spells Full (lower_case_text d) d
converted_spells few_outputs version c d fit is =
    let circuit : SoundCircuit = sound c.lang c.program is.parts is.proof.claim.compiled in
    subst (λ (p : Content). Spells Full (lower_case_text p) p) (sym (with_outputs version c d is))
    (spells (ByLines version) c.lang c.program c.inputs is.outputs is.messages
    (fits circuit c.lang c.program c.inputs is.outputs (kind_spelling (ByLines version) is.messages) fit.program fit.inputs is.proof.as_many (few_outputs c.lang c.program is.parts is.proof.claim.compiled) (kind_length (ByLines version) circuit is.messages is.proof.of_shape)))

pub converted_few : HaveFewOutputs → (version : ProofVersion) (c d : Content) → Fits c → IsConverted version c d → length (lower_case_text d) < 8388608
converted_few few_outputs version c d fit is =
    let circuit : SoundCircuit = sound c.lang c.program is.parts is.proof.claim.compiled in
    let few : length is.outputs ≤ 65535 = omega (arith, is.proof.as_many, few_outputs c.lang c.program is.parts is.proof.claim.compiled) in
    subst (λ (p : Content). length (lower_case_text p) < 8388608) (sym (with_outputs version c d is))
    (short c.lang c.program c.inputs is.outputs (kind_spelling (ByLines version) is.messages) fit.program fit.inputs few (kind_length (ByLines version) circuit is.messages is.proof.of_shape))

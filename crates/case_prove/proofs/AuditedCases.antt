-- A case has one audit, which says whether the outputs are the meaning and names a challenge of each accepted falsehood, and nothing of what is proved.
use Rattle.std.proofs.Common.{◌≡◌, ◌↔◌, ℕ, List, IsTrue, IsSome, length, drop, refl, sym, subst}
use Rattle.field_ext.specs.Field.{F, K}
use Rattle.circuit_core.specs.Parts.{Parts}
use Rattle.circuit_core.specs.Sound.{SoundCircuit, exponent_at, exponents}
use Rattle.transcript_fs.specs.Source.{Source, all_draws}
use Rattle.transcript_fs.specs.Transcript.{transcript}
use Rattle.proof_wire.specs.declared.form.ProofForm.{ProofForm}
use Rattle.proof_wire.specs.declared.form.ProofForm.TheVariants.{Line}
use Rattle.proof_wire.specs.declared.messages.Messages.{Messages}
use Rattle.proof_two.specs.declared.kind.ProofKind.TheVariants.{ByLines}
use Rattle.proof_two.specs.declared.kind.ProofVersion.{ProofVersion}
use Rattle.proof_wire.specs.Lists.{all_messages, HaveShape}
use Rattle.gkr_layers.specs.declared.verdict.Verdict.TheVariants.{Accepted}
use Rattle.gkr_layers.specs.Layers.{challenges_of}
use Rattle.gkr_layers.specs.Honest.{AreHonestMessages}
use Rattle.gkr_layers.proofs.api.Shapes.{drawn}
use Rattle.audit_core.specs.declared.report.Audit.{Audit}
use Rattle.audit_core.specs.Audit.{AreOutputs, IsAuditOf, names_nothing}
use Rattle.case_text.specs.Content.{Content}
use Rattle.case_prove.specs.Audited.{IsAudited, own_challenges}
use Rattle.case_prove.specs.Proved.{IsProved}
use Rattle.case_prove.specs.Sound.{HasMeaning}
use Rattle.case_prove.specs.Started.{start_of}
use Rattle.case_prove.proofs.AcceptedOutputs.{meant}
use Rattle.case_prove.specs.Verified.{Says}
use Rattle.case_prove.proofs.OneSaying.{says_one}
use Rattle.case_prove.proofs.api.ProvedCases.{HonestIsAccepted, OneCircuit, kind_says}
use Rattle.case_prove.proofs.api.ReadProofs.{one_value}
use Rattle.case_prove.proofs.api.ProvedOutputs.{OneTree, InputsAre, IsComputed, sound, meaning_there}

-- the circuit of an audited case
abbrev circuit_of : (c : Content) (audit : Audit) → IsAudited c audit → SoundCircuit
circuit_of c audit is = sound c.lang c.program is.parts is.proof.claim.compiled

-- ---- one audit

abbrev pub OneAudit : Type 0
OneAudit = (form : ProofForm) (circuit : SoundCircuit) (inputs outputs : List F) (qs : List (List K)) (rs : List K) (audit other : Audit) →
    IsAuditOf form circuit.parts inputs outputs qs rs audit → IsAuditOf form circuit.parts inputs outputs qs rs other → audit ≡ other

pub one_audit : OneCircuit → OneAudit → (c : Content) (a b : Audit) → IsAudited c a → IsAudited c b → a ≡ b
one_audit circuit one c a b is is' =
    let parts : is'.parts ≡ is.parts = circuit c.lang c.program is'.parts is.parts is'.proof.claim.compiled is.proof.claim.compiled in
    let outputs : is'.outputs ≡ is.outputs = one_value c.outputs is'.outputs is.outputs is'.proof.claim.outputs_are is.proof.claim.outputs_are in
    let shape = subst (λ (p : Parts). HaveShape Line (drop 1 (exponents p)) is'.messages.layers) parts is'.proof.of_shape in
    let says = coe 0 1 (i. Says Line c (parts i) (outputs i) is'.messages) is'.proof.spelled in
    let messages : is'.messages ≡ is.messages = says_one Line c is.parts is.outputs is'.messages is.messages shape is.proof.of_shape says is.proof.spelled in
    one Line (circuit_of c a is) c.inputs is.outputs (all_messages is.messages.layers) (own_challenges c is.parts is.outputs is.messages) a b is.audit_is
    (coe 0 1 (i. IsAuditOf Line (parts i) c.inputs (outputs i) (all_messages (messages i).layers) (own_challenges c (parts i) (outputs i) (messages i)) b) is'.audit_is)

-- ---- the meaning

pub same_is_meaning : OneTree → InputsAre → IsComputed → (c : Content) (audit : Audit) → IsAudited c audit → IsTrue audit.same ↔ HasMeaning c
same_is_meaning one inputs_are computes c audit is = (
  λ same. meant inputs_are computes c is.parts is.outputs is.proof.claim is.proof.as_many (is.audit_is.same.0 same),
  λ has.
      let there = meaning_there one inputs_are computes c is.parts is.proof.claim.compiled has.outputs has.evaluated in
      is.audit_is.same.1 (subst (λ (o : List F). AreOutputs is.parts c.inputs o) (one_value c.outputs has.outputs is.outputs has.outputs_are is.proof.claim.outputs_are) there.stand),
)

-- ---- an accepted falsehood

abbrev pub FalsehoodIsNamed : Type 0
FalsehoodIsNamed = (form : ProofForm) (circuit : SoundCircuit) (inputs outputs : List F) (messages : Messages) (rs : List K) (audit : Audit) → length outputs ≡ circuit.parts.outputs →
    HaveShape form (drop 1 (exponents circuit.parts)) messages.layers → length rs ≡ challenges_of circuit.parts → IsAuditOf form circuit.parts inputs outputs (all_messages messages.layers) rs audit →
    audit.verdict ≡ Accepted → ¬ IsTrue audit.same → IsSome audit.challenge

pub falsehood_named : InputsAre → IsComputed → FalsehoodIsNamed → (c : Content) (audit : Audit) → IsAudited c audit → audit.verdict ≡ Accepted → ¬ HasMeaning c → IsSome audit.challenge
falsehood_named inputs_are computes law c audit is accepted wrong =
    law Line (circuit_of c audit is) c.inputs is.outputs is.messages (own_challenges c is.parts is.outputs is.messages) audit is.proof.as_many is.proof.of_shape
    (drawn Line is.parts c.inputs is.outputs transcript (start_of Line c.program c.inputs is.outputs) is.messages is.proof.of_shape) is.audit_is accepted
    (λ same. wrong (meant inputs_are computes c is.parts is.outputs is.proof.claim is.proof.as_many (is.audit_is.same.0 same)))

-- ---- what is proved

abbrev pub HonestyIsUnnamed : Type 0
HonestyIsUnnamed = (form : ProofForm) (circuit : SoundCircuit) (inputs outputs : List F) (source : Source) (s : List ℕ) (messages : Messages) → length outputs ≡ circuit.parts.outputs → AreOutputs circuit.parts inputs outputs →
    HaveShape form (drop 1 (exponents circuit.parts)) messages.layers → AreHonestMessages form circuit.parts inputs source s (all_messages messages.layers) →
    IsAuditOf form circuit.parts inputs outputs (all_messages messages.layers) (all_draws source s (exponent_at circuit.parts 0) (all_messages messages.layers)) names_nothing

pub proved_unnamed : OneTree → InputsAre → IsComputed → HonestIsAccepted Line → HonestyIsUnnamed → (version : ProofVersion) (c proved : Content) → IsProved (ByLines version) c proved → IsAudited proved names_nothing
proved_unnamed one inputs_are computes honest law version c proved is =
    let there = meaning_there one inputs_are computes c is.parts is.compiled is.outputs is.evaluated in
    let verdict = honest (sound c.lang c.program is.parts is.compiled) c.inputs is.outputs transcript (start_of Line c.program c.inputs is.outputs) is.messages there.as_many there.stand is.of_shape is.honest in
    subst (λ (q : Content). IsAudited q names_nothing) (sym is.proved_is) (record {
      parts = is.parts;
      outputs = is.outputs;
      messages = is.messages;
      proof = record {
        claim = record { compiled = is.compiled; counted = there.counted; outputs_are = refl };
        as_many = there.as_many;
        of_shape = is.of_shape;
        spelled = kind_says (ByLines version) c.lang c.program c.inputs is.outputs is.parts is.messages is.of_shape verdict;
      };
      audit_is = law Line (sound c.lang c.program is.parts is.compiled) c.inputs is.outputs transcript (start_of Line c.program c.inputs is.outputs) is.messages there.as_many there.stand is.of_shape is.honest;
    })

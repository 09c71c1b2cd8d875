-- What is converted says the same messages, so that it has the same verdicts, and converting back gives the case again.
use Rattle.std.proofs.Common.{◌≡◌, inl, inr, ◌↔◌, ℕ, List, Option, Some, drop, refl, sym, ◌∙◌, ap, subst}
use Rattle.arr_ast.specs.declared.lang.Lang.{Lang}
use Rattle.field_ext.specs.Field.{F}
use Rattle.circuit_core.specs.Parts.{Parts}
use Rattle.circuit_core.specs.Sound.{exponents}
use Rattle.transcript_fs.specs.Transcript.{transcript}
use Rattle.proof_wire.specs.declared.form.ProofForm.TheVariants.{Line}
use Rattle.proof_wire.specs.declared.messages.Messages.{Messages}
use Rattle.proof_wire.specs.Lists.{HaveShape}
use Rattle.proof_wire.specs.Spelling.{spelling}
use Rattle.proof_two.specs.declared.kind.ProofKind.TheVariants.{ByLines}
use Rattle.proof_two.specs.declared.kind.ProofVersion.{ProofVersion}
use Rattle.proof_two.specs.declared.kind.ProofVersion.TheVariants.{One, Two}
use Rattle.proof_two.specs.Kinds.{kind_spelling}
use Rattle.proof_two.specs.Lists.{shortened}
use Rattle.proof_two.specs.Spelling.{spelling_two}
use Rattle.proof_two.proofs.api.Shortened.{short_shape}
use Rattle.gkr_layers.specs.declared.verdict.Verdict.{Verdict}
use Rattle.gkr_layers.specs.declared.verdict.Verdict.TheVariants.{Accepted}
use Rattle.gkr_layers.specs.Equations.{first_failure}
use Rattle.gkr_verify.specs.ShortProof.{sums_of}
use Rattle.gkr_verify.proofs.api.Filled.{sums-fill}
use Rattle.case_text.specs.Content.{Content}
use Rattle.case_prove.specs.Converted.{IsConverted}
use Rattle.case_prove.specs.Started.{start_of}
use Rattle.case_prove.specs.Verified.{HasProof, IsVerdictOn, Says, transcript_verdict}
use Rattle.case_prove.proofs.OneSaying.{apart, says_form, says_one}
use Rattle.case_prove.proofs.api.ProvedCases.{OneCircuit}
use Rattle.case_prove.proofs.api.ReadProofs.{one_value}

-- a case with its messages by lines in a version says these messages, where the sums hold if it has to
pub version_says : (version : ProofVersion) (lang : Lang) (program : List ℕ) (inputs outputs : List F) (told : Option (List F)) (p : Parts) (m : Messages) → HaveShape Line (drop 1 (exponents p)) m.layers
    → (version ≡ Two → first_failure (sums_of p outputs transcript (start_of Line program inputs outputs) m) ≡ Accepted)
    → Says Line (record { lang = lang; program = program; inputs = inputs; outputs = told; proof = Some (kind_spelling (ByLines version) m) }) p outputs m
version_says One lang program inputs outputs told p m shape sums = inl refl
version_says Two lang program inputs outputs told p m shape sums = inr (record {
  pairs = shortened m;
  pairs_shape = short_shape (drop 1 (exponents p)) m.layers shape;
  pairs_spelled = refl;
  filled_is = sym (sums-fill p outputs transcript (start_of Line program inputs outputs) m (sums refl));
})

-- the case that is written
abbrev rewritten : Content → ProofVersion → Messages → Content
rewritten c version m = record { lang = c.lang; program = c.program; inputs = c.inputs; outputs = c.outputs; proof = Some (kind_spelling (ByLines version) m) }

written_has : (version : ProofVersion) (c d : Content) (is : IsConverted version c d) → HasProof Line d is.parts is.outputs is.messages
written_has version c d is =
    subst (λ (e : Content). HasProof Line e is.parts is.outputs is.messages) (sym is.written_is) (record {
      claim = record { compiled = is.proof.claim.compiled; counted = is.proof.claim.counted; outputs_are = is.proof.claim.outputs_are };
      as_many = is.proof.as_many;
      of_shape = is.proof.of_shape;
      spelled = version_says version c.lang c.program c.inputs is.outputs c.outputs is.parts is.messages is.proof.of_shape is.sums;
    })

-- a verdict on a case is the one on the messages that its proof says
one_verdict : OneCircuit → (c : Content) (p : Parts) (o : List F) (m : Messages) → HasProof Line c p o m → (v : Verdict) → IsVerdictOn c v → v ≡ transcript_verdict Line c p o m
one_verdict circuit c p o m has v is =
    let form : is.form ≡ Line = sym (says_form is.form c is.parts is.outputs is.messages is.spelled) ∙ says_form Line c p o m has.spelled in
    let parts : is.parts ≡ p = circuit c.lang c.program is.parts p is.claim.compiled has.claim.compiled in
    let outputs : is.outputs ≡ o = one_value c.outputs is.outputs o is.claim.outputs_are has.claim.outputs_are in
    let shape = coe 0 1 (i. HaveShape (form i) (drop 1 (exponents (parts i))) is.messages.layers) is.of_shape in
    let says = coe 0 1 (i. Says (form i) c (parts i) (outputs i) is.messages) is.spelled in
    let messages : is.messages ≡ m = says_one Line c p o is.messages m shape has.of_shape says has.spelled in
    is.verdict_is ∙ (λ i. transcript_verdict (form i) c (parts i) (outputs i) (messages i))

-- and these have it
has_verdict : (c : Content) (p : Parts) (o : List F) (m : Messages) → HasProof Line c p o m → (v : Verdict) → v ≡ transcript_verdict Line c p o m → IsVerdictOn c v
has_verdict c p o m has v e = record {
  parts = p;
  outputs = o;
  claim = has.claim;
  as_many = has.as_many;
  form = Line;
  messages = m;
  of_shape = has.of_shape;
  spelled = has.spelled;
  verdict_is = e;
}

-- the verdict on messages doesn't hang on the proof's bytes
same_there : (version : ProofVersion) (c d : Content) (is : IsConverted version c d) → transcript_verdict Line c is.parts is.outputs is.messages ≡ transcript_verdict Line d is.parts is.outputs is.messages
same_there version c d is = ap (λ (e : Content). transcript_verdict Line e is.parts is.outputs is.messages) (sym is.written_is)

pub same_verdicts : OneCircuit → (version : ProofVersion) (c d : Content) → IsConverted version c d → (v : Verdict) → IsVerdictOn c v ↔ IsVerdictOn d v
same_verdicts circuit version c d is v = (
  λ on. has_verdict d is.parts is.outputs is.messages (written_has version c d is) v (one_verdict circuit c is.parts is.outputs is.messages is.proof v on ∙ same_there version c d is),
  λ on. has_verdict c is.parts is.outputs is.messages is.proof v (one_verdict circuit d is.parts is.outputs is.messages (written_has version c d is) v on ∙ sym (same_there version c d is)),
)

-- two proofs of a case say the same messages
same_messages : OneCircuit → (c : Content) (p q : Parts) (o r : List F) (m n : Messages) → HasProof Line c p o m → HasProof Line c q r n → m ≡ n
same_messages circuit c p q o r m n has has' =
    let parts : p ≡ q = circuit c.lang c.program p q has.claim.compiled has'.claim.compiled in
    let outputs : o ≡ r = one_value c.outputs o r has.claim.outputs_are has'.claim.outputs_are in
    let shape = coe 0 1 (i. HaveShape Line (drop 1 (exponents (parts i))) m.layers) has.of_shape in
    let says = coe 0 1 (i. Says Line c (parts i) (outputs i) m) has.spelled in
    says_one Line c q r m n shape has'.of_shape says has'.spelled

pub one_converted : OneCircuit → (version : ProofVersion) (c d e : Content) → IsConverted version c d → IsConverted version c e → d ≡ e
one_converted circuit version c d e is is' =
    is.written_is
    ∙ ap (rewritten c version) (same_messages circuit c is.parts is'.parts is.outputs is'.outputs is.messages is'.messages is.proof is'.proof)
    ∙ sym is'.written_is

-- a case of version 1 spells the messages that it says
spelled_by : (c : Content) (p : Parts) (o : List F) (m n : Messages) → Says Line c p o m → c.proof ≡ Some (spelling Line n) → Some (spelling Line m) ≡ c.proof
spelled_by c p o m n (inl f) e = sym f
spelled_by c p o m n (inr f) e = absurd (apart n f.pairs (one_value c.proof (spelling_two f.pairs) (spelling Line n) f.pairs_spelled e))

pub back : OneCircuit → (c two one : Content) → IsConverted Two c two → IsConverted One two one → ((m : Messages) × (c.proof ≡ Some (spelling Line m))) → one ≡ c
back circuit c two one is is' plain =
    let messages : is'.messages ≡ is.messages = same_messages circuit two is'.parts is.parts is'.outputs is.outputs is'.messages is.messages is'.proof (written_has Two c two is) in
    is'.written_is
    ∙ (λ i. rewritten (is.written_is i) One (messages i))
    ∙ (λ i. record { lang = c.lang; program = c.program; inputs = c.inputs; outputs = c.outputs; proof = spelled_by c is.parts is.outputs is.messages plain.0 is.proof.spelled plain.1 i })

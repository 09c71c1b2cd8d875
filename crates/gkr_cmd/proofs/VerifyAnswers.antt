-- A case has at most one answer of `verify`, and that to a case whose proof meets every equation is that it is accepted.
use Rattle.std.proofs.Common.{◌≡◌, ◌↔◌, List, drop, subst, refl, sym, ap, ◌∙◌}
use Rattle.field_ext.specs.Field.{F}
use Rattle.circuit_core.specs.Parts.{Parts}
use Rattle.circuit_core.specs.Sound.{exponents}
use Rattle.proof_wire.specs.declared.messages.Messages.{Messages}
use Rattle.proof_wire.specs.declared.form.ProofForm.{ProofForm}
use Rattle.transcript_fs.specs.Source.{all_draws}
use Rattle.transcript_fs.specs.Transcript.{transcript}
use Rattle.gkr_layers.specs.Acceptance.{claim_in, verdict_of}
use Rattle.proof_wire.specs.Lists.{all_messages, HaveShape}
use Rattle.gkr_layers.specs.declared.verdict.Verdict.{Verdict}
use Rattle.gkr_layers.specs.declared.verdict.Verdict.TheVariants as verdicts
use Rattle.case_text.specs.Content.{Content}
use Rattle.case_text.specs.declared.reply.Reply.{Reply}
use Rattle.case_text.specs.declared.reply.Reply.TheVariants as replies
use Rattle.case_text.specs.declared.reply.verdict.VerdictLine.{VerdictLine}
use Rattle.case_prove.specs.Started.{start_of}
use Rattle.case_prove.specs.Verified.{HasProof, IsVerdictOn, RefusesVerify, Says, proof_form}
use Rattle.case_prove.specs.declared.refused.Refused.{Refused}
use Rattle.case_prove.specs.declared.refused.Refused.TheVariants as refusals
use Rattle.gkr_cmd.specs.declared.status.Status.TheVariants.{Done}
use Rattle.gkr_cmd.specs.Replies.{IsVerdictLine, IsVerifyAnswer, status_of}
use Rattle.gkr_cmd.specs.Reported.{verdict_line}
use Rattle.gkr_cmd.proofs.CircuitAnswers.{IsOne}
use Rattle.gkr_cmd.proofs.OneReply.{OneAnswer}
use Rattle.gkr_cmd.proofs.ProofRefusals.{IsOneProof, Refusal, refusal, one_refusal, not_both, read_or_memory, same_parts, same_outputs}

-- what is said of a case
pub data Answer (c : Content) : Reply → Type 0 where
  no_verdict : {reply : Reply} → Refusal (proof_form c) c reply → Answer c reply
  verdict : (verdict : Verdict) → IsVerdictOn c verdict → Answer c (replies.Verdict (verdict_line verdict))

with_line : (c : Content) (line : VerdictLine) → IsVerdictLine c line → Answer c (replies.Verdict line)
with_line c line is = subst (λ l. Answer c (replies.Verdict l)) (sym is.2) (verdict is.0 is.1)

pub answer : (c : Content) (reply : Reply) → IsVerifyAnswer c reply → Answer c reply
answer c replies.Usage is = absurd is
answer c (replies.TooLong limit) is = absurd is
answer c (replies.Case bad) is = absurd is
answer c (replies.Program kind at) is = no_verdict (refusal (proof_form c) c (replies.Program kind at) is)
answer c (replies.Deep levels) is = no_verdict (refusal (proof_form c) c (replies.Deep levels) is)
answer c (replies.Wide height width) is = no_verdict (refusal (proof_form c) c (replies.Wide height width) is)
answer c (replies.InputCount have need) is = no_verdict (refusal (proof_form c) c (replies.InputCount have need) is)
answer c (replies.Outputs outputs) is = absurd is
answer c (replies.Circuit sizes) is = absurd is
answer c (replies.Proved proved) is = absurd is
answer c (replies.Demo summary) is = absurd is
answer c (replies.Served jobs) is = absurd is
answer c (replies.History history) is = absurd is
answer c (replies.OutputCount have need) is = no_verdict (refusal (proof_form c) c (replies.OutputCount have need) is)
answer c (replies.Proof bad) is = no_verdict (refusal (proof_form c) c (replies.Proof bad) is)
answer c (replies.Verdict line) is = with_line c line is
answer c (replies.Audit lines) is = absurd is
answer c (replies.WordCount have need) is = absurd is
answer c (replies.Session sizes) is = absurd is

-- a case with a verdict has a proof in the form that its fourth byte names
form_read : IsOneProof → (c : Content) (v : Verdict) (is : IsVerdictOn c v) → is.form ≡ proof_form c
form_read proofs c v is = sym (proofs.form is.form c is.parts is.outputs is.messages is.spelled)

has_proof : IsOneProof → (c : Content) (v : Verdict) (is : IsVerdictOn c v) → HasProof (proof_form c) c is.parts is.outputs is.messages
has_proof proofs c v is =
    subst (λ (form : ProofForm). HasProof form c is.parts is.outputs is.messages) (form_read proofs c v is)
    (record { claim = is.claim; as_many = is.as_many; of_shape = is.of_shape; spelled = is.spelled })

abbrev by_messages : ProofForm → Content → Parts → List F → Messages → Verdict
by_messages form c parts outputs messages =
    let stated = claim_in form parts c.inputs outputs in
    verdict_of stated (all_messages messages.layers) (all_draws transcript (start_of form c.program c.inputs outputs) stated.k (all_messages messages.layers))

same_verdict : IsOne → IsOneProof → (c : Content) (v w : Verdict) → IsVerdictOn c v → IsVerdictOn c w → v ≡ w
same_verdict one proofs c v w is is' =
    let parts = same_parts one c is'.parts is.parts is'.outputs is.outputs is'.claim is.claim in
    let outputs = same_outputs c is'.parts is.parts is'.outputs is.outputs is'.claim is.claim in
    let form : is'.form ≡ is.form = form_read proofs c w is' ∙ sym (form_read proofs c v is) in
    let shape : HaveShape is.form (drop 1 (exponents is.parts)) is'.messages.layers = coe 0 1 (i. HaveShape (form i) (drop 1 (exponents (parts i))) is'.messages.layers) is'.of_shape in
    let says : Says is.form c is.parts is.outputs is'.messages = coe 0 1 (i. Says (form i) c (parts i) (outputs i) is'.messages) is'.spelled in
    let messages : is.messages ≡ is'.messages = proofs.reading is.form c is.parts is.outputs is.messages is'.messages is.of_shape shape is.spelled says in
    is.verdict_is
    ∙ ap (by_messages is.form c is.parts is.outputs) messages
    ∙ ap (λ (o : List F). by_messages is.form c is.parts o is'.messages) (sym outputs)
    ∙ ap (λ (q : Parts). by_messages is.form c q is'.outputs is'.messages) (sym parts)
    ∙ ap (λ (f : ProofForm). by_messages f c is'.parts is'.outputs is'.messages) (sym form)
    ∙ sym is'.verdict_is

one_answer : IsOne → IsOneProof → (c : Content) {a b : Reply} → Answer c a → Answer c b → a ≡ b
one_answer one proofs c (no_verdict is) (no_verdict is') = one_refusal one proofs (proof_form c) c is is'
one_answer one proofs c (no_verdict is) (verdict v is') = absurd (not_both one proofs (proof_form c) c is'.parts is'.outputs is'.messages is (has_proof proofs c v is'))
one_answer one proofs c (verdict v is) (no_verdict is') = absurd (not_both one proofs (proof_form c) c is.parts is.outputs is.messages is' (has_proof proofs c v is))
one_answer one proofs c (verdict v is) (verdict w is') = ap (λ (u : Verdict). replies.Verdict (verdict_line u)) (same_verdict one proofs c v w is is')

pub one_verify : IsOne → IsOneProof → OneAnswer IsVerifyAnswer
one_verify one proofs c a b is is' = one_answer one proofs c (answer c a is) (answer c b is')

pub verify_done : IsOne → IsOneProof → (c : Content) (reply : Reply) → IsVerdictOn c verdicts.Accepted → IsVerifyAnswer c reply → status_of reply ≡ Done
verify_done one proofs c reply is found =
    ap status_of (sym (one_answer one proofs c {a = replies.Verdict (verdict_line verdicts.Accepted)} {b = reply} (verdict verdicts.Accepted is) (answer c reply found)))

-- a case that is accepted has no other verdict, and isn't refused
pub accepted_alone : IsOne → IsOneProof → (c : Content) → IsVerdictOn c verdicts.Accepted → (v : Verdict) → IsVerdictOn c v → v ≡ verdicts.Accepted
accepted_alone one proofs c is v is' = same_verdict one proofs c v verdicts.Accepted is' is

pub accepted_or_memory : IsOne → IsOneProof → (c : Content) → IsVerdictOn c verdicts.Accepted → (r : Refused) → RefusesVerify c r → r ≡ refusals.Memory
accepted_or_memory one proofs c is r is' = read_or_memory one proofs (proof_form c) c is.parts is.outputs is.messages (has_proof proofs c verdicts.Accepted is) r is'

-- a case that has a verdict isn't refused, so its answers are those of a case with the same verdicts
answered : IsOne → IsOneProof → (c d : Content) (v : Verdict) → IsVerdictOn c v → ((w : Verdict) → IsVerdictOn c w → IsVerdictOn d w) → {reply : Reply} → Answer c reply → IsVerifyAnswer d reply
answered one proofs c d v is to (no_verdict refusal) = absurd (not_both one proofs (proof_form c) c is.parts is.outputs is.messages refusal (has_proof proofs c v is))
answered one proofs c d v is to (verdict w found) = (w, to w found, refl)

pub answered_alike : IsOne → IsOneProof → (c d : Content) (v : Verdict) → IsVerdictOn c v → ((w : Verdict) → IsVerdictOn c w ↔ IsVerdictOn d w) → (reply : Reply) → IsVerifyAnswer c reply ↔ IsVerifyAnswer d reply
answered_alike one proofs c d v is alike reply = (
  λ found. answered one proofs c d v is (λ w is'. (alike w).0 is') (answer c reply found),
  λ found. answered one proofs d c v ((alike v).0 is) (λ w is'. (alike w).1 is') (answer d reply found),
)

-- A case has at most one answer of `audit`, and that to a case with a proof by lines is its audit.
use Rattle.std.proofs.Common.{◌≡◌, ℕ, List, subst, Option, Some, Ok, refl, sym, ap}
use Rattle.io_edge.specs.Written.{Grows}
use Rattle.proof_wire.specs.declared.form.ProofForm.TheVariants.{Line}
use Rattle.audit_core.specs.declared.report.Audit.{Audit}
use Rattle.case_text.specs.Content.{Content}
use Rattle.case_text.specs.declared.case.form.Form.TheVariants.{Full}
use Rattle.case_text.specs.declared.reply.Reply.{Reply}
use Rattle.case_text.specs.declared.reply.Reply.TheVariants as replies
use Rattle.case_text.specs.declared.reply.verdict.AuditLines.{AuditLines}
use Rattle.case_prove.specs.Audited.{IsAudited}
use Rattle.gkr_cmd.specs.declared.status.Status.TheVariants.{Done}
use Rattle.gkr_words.specs.declared.words.Command.{Command}
use Rattle.gkr_words.specs.declared.words.Command.TheVariants.{OfCase}
use Rattle.gkr_words.specs.declared.words.CaseCommand.TheVariants as commands
use Rattle.gkr_cmd.specs.Replies.{AreAuditLines, IsAuditAnswer, IsCommandReply, IsOfCase, status_of}
use Rattle.case_text.specs.Reading.{reading}
use Rattle.case_text.specs.Replies.{reply_text}
use Rattle.gkr_cmd.specs.RunLaws.{RunLaws}
use Rattle.gkr_cmd.specs.Runs.{HasLineProof, WritesAudit}
use Rattle.gkr_cmd.specs.Reported.{audit_lines}
use Rattle.gkr_cmd.proofs.CircuitAnswers.{IsOne}
use Rattle.gkr_cmd.proofs.OneReply.{OneAnswer, Found, found, long, no_case, of_case}
use Rattle.gkr_cmd.proofs.ProofRefusals.{IsOneProof, Refusal, refusal, refusal_undone, one_refusal, not_both}
use Rattle.gkr_cmd.proofs.OneReply.{same_case as one_case}

abbrev pub OneAudit : Type 0
OneAudit = (c : Content) (audit other : Audit) → IsAudited c audit → IsAudited c other → audit ≡ other

-- what is said of a case
data Answer (c : Content) : Reply → Type 0 where
  no_audit : {reply : Reply} → Refusal Line c reply → Answer c reply
  audited : (audit : Audit) → IsAudited c audit → Answer c (replies.Audit (audit_lines audit))

with_lines : (c : Content) (lines : AuditLines) → AreAuditLines c lines → Answer c (replies.Audit lines)
with_lines c lines are = subst (λ l. Answer c (replies.Audit l)) (sym are.2) (audited are.0 are.1)

answer : (c : Content) (reply : Reply) → IsAuditAnswer c reply → Answer c reply
answer c replies.Usage is = absurd is
answer c (replies.TooLong limit) is = absurd is
answer c (replies.Case bad) is = absurd is
answer c (replies.Program kind at) is = no_audit (refusal Line c (replies.Program kind at) is)
answer c (replies.Deep levels) is = no_audit (refusal Line c (replies.Deep levels) is)
answer c (replies.Wide height width) is = no_audit (refusal Line c (replies.Wide height width) is)
answer c (replies.InputCount have need) is = no_audit (refusal Line c (replies.InputCount have need) is)
answer c (replies.Outputs outputs) is = absurd is
answer c (replies.Circuit sizes) is = absurd is
answer c (replies.Proved proved) is = absurd is
answer c (replies.Demo summary) is = absurd is
answer c (replies.Served jobs) is = absurd is
answer c (replies.History history) is = absurd is
answer c (replies.OutputCount have need) is = no_audit (refusal Line c (replies.OutputCount have need) is)
answer c (replies.Proof bad) is = no_audit (refusal Line c (replies.Proof bad) is)
answer c (replies.Verdict line) is = absurd is
answer c (replies.Audit lines) is = with_lines c lines is
answer c (replies.WordCount have need) is = absurd is
answer c (replies.Session sizes) is = absurd is

one_answer : IsOne → IsOneProof → OneAudit → (c : Content) {a b : Reply} → Answer c a → Answer c b → a ≡ b
one_answer one proofs audits c (no_audit is) (no_audit is') = one_refusal one proofs Line c is is'
one_answer one proofs audits c (no_audit is) (audited audit is') = absurd (not_both one proofs Line c is'.parts is'.outputs is'.messages is is'.proof)
one_answer one proofs audits c (audited audit is) (no_audit is') = absurd (not_both one proofs Line c is.parts is.outputs is.messages is' is.proof)
one_answer one proofs audits c (audited audit is) (audited other is') = ap (λ (a : Audit). replies.Audit (audit_lines a)) (audits c audit other is is')

pub one_audit : IsOne → IsOneProof → OneAudit → OneAnswer IsAuditAnswer
one_audit one proofs audits c a b is is' = one_answer one proofs audits c (answer c a is) (answer c b is')

answer_done : IsOne → IsOneProof → (c : Content) {reply : Reply} → HasLineProof c → Answer c reply → status_of reply ≡ Done
answer_done one proofs c has (no_audit is) = absurd (not_both one proofs Line c has.parts has.outputs has.messages is has.proof)
answer_done one proofs c has (audited audit is) = refl

pub audit_done : IsOne → IsOneProof → (c : Content) (reply : Reply) → HasLineProof c → IsAuditAnswer c reply → status_of reply ≡ Done
audit_done one proofs c reply has is = answer_done one proofs c has (answer c reply is)

-- ---- the reply of `audit` with status 0

-- the audit that a reply reports
pub record TellsAudit (c : Content) (reply : Reply) : Type 0 where
  pub audit : Audit
  pub is_audited : IsAudited c audit
  pub reply_is : reply ≡ replies.Audit (audit_lines audit)

told_by_answer : (c : Content) {reply : Reply} → Answer c reply → status_of reply ≡ Done → TellsAudit c reply
told_by_answer c (no_audit is) e = absurd (refusal_undone Line c is e)
told_by_answer c (audited audit is) e = record { audit = audit; is_audited = is; reply_is = refl }

pub tells_audit : (c : Content) (reply : Reply) → IsAuditAnswer c reply → status_of reply ≡ Done → TellsAudit c reply
tells_audit c reply is e = told_by_answer c (answer c reply is) e

has_proof : (c : Content) (reply : Reply) → TellsAudit c reply → HasLineProof c
has_proof c reply tells = record {
  parts = tells.is_audited.parts;
  outputs = tells.is_audited.outputs;
  messages = tells.is_audited.messages;
  proof = tells.is_audited.proof;
}

by_input : (input : List ℕ) {reply : Reply} → Found Full IsAuditAnswer input reply → status_of reply ≡ Done → IsOfCase Full input (λ c. TellsAudit c reply)
by_input input (long limit is) e = absurd cc
by_input input (no_case bad is) e = absurd cc
by_input input {reply} (of_case c within read is) e = record { within = within; content = c; read = read; holds = tells_audit c reply is e }

pub audited_of : (command : Option Command) (input : List ℕ) (reply : Reply) → command ≡ Some (OfCase commands.Audit) → IsCommandReply command input reply → status_of reply ≡ Done → IsOfCase Full input (λ c. TellsAudit c reply)
audited_of command input reply is replied done = by_input input (found Full IsAuditAnswer input reply (subst (λ c. IsCommandReply c input reply) is replied)) done

-- the case has a proof by lines
pub line_proof_of : (input : List ℕ) (reply : Reply) → IsOfCase Full input (λ c. TellsAudit c reply) → IsOfCase Full input HasLineProof
line_proof_of input reply case = record { within = case.within; content = case.content; read = case.read; holds = has_proof case.content reply case.holds }

writes : RunLaws → (c : Content) (reply : Reply) (before after : Option (List ℕ)) → TellsAudit c reply → Grows before after (reply_text reply) → WritesAudit c before after
writes laws c reply before after tells written = record {
  audit = tells.audit;
  is_audited = tells.is_audited;
  written = subst (λ r. Grows before after (reply_text r)) tells.reply_is written;
  verdict = laws.audit_verdict c tells.audit tells.is_audited;
  meaning = laws.audit_meaning c tells.audit tells.is_audited;
  named = laws.audit_named c tells.audit tells.is_audited;
  unnamed = λ version plain proved. laws.one_audit c tells.audit _ tells.is_audited (laws.audit_unnamed version plain c proved);
}

-- what is written is the audit of the case that the input spells
pub writes_audit : RunLaws → (input : List ℕ) (content : Content) (reply : Reply) (before after : Option (List ℕ)) → IsOfCase Full input (λ c. TellsAudit c reply) → reading Full input ≡ Ok content → Grows before after (reply_text reply) → WritesAudit content before after
writes_audit laws input content reply before after case read written =
    writes laws content reply before after (subst (λ c. TellsAudit c reply) (one_case (reading Full input) case.content content case.read read) case.holds) written

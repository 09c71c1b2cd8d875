-- The laws that the promises of a run rest on, together. No public contract cites this.
use Rattle.std.specs.Prelude.{◌≡◌, ◌<◌, ◌↔◌, ℕ, List, Ok, IsSome, IsTrue, length}
use Rattle.audit_core.specs.Audit.{names_nothing}
use Rattle.audit_core.specs.declared.report.Audit.{Audit}
use Rattle.case_prove.specs.Audited.{IsAudited}
use Rattle.case_prove.specs.Converted.{IsConverted}
use Rattle.case_prove.specs.Answers.{IsProveAnswer}
use Rattle.case_prove.specs.Proved.{IsProved}
use Rattle.case_prove.specs.Sound.{HasExceptionalChallenge, HasMeaning}
use Rattle.case_prove.specs.Verified.{HasAcceptedProof, IsVerdictOn}
use Rattle.proof_two.specs.declared.kind.ProofKind.{ProofKind}
use Rattle.proof_two.specs.declared.kind.ProofKind.TheVariants.{ByLines}
use Rattle.proof_two.specs.declared.kind.ProofVersion.{ProofVersion}
use Rattle.case_text.specs.Content.{Content, Fits}
use Rattle.case_text.specs.Reading.{reading}
use Rattle.case_text.specs.Spelling.{Spells, lower_case_text}
use Rattle.case_text.specs.declared.case.form.Form.{Form}
use Rattle.case_text.specs.declared.case.form.Form.TheVariants.{Full, Plain}
use Rattle.case_text.specs.declared.reply.Reply.{Reply}
use Rattle.gkr_layers.specs.declared.verdict.Verdict.TheVariants as verdicts
use Rattle.gkr_cmd.specs.declared.status.Status.TheVariants as statuses
use Rattle.gkr_cmd.specs.Replies.{IsAuditAnswer, IsCaseReply, IsCircuitAnswer, IsConvertAnswer, IsDemoAnswer}
use Rattle.gkr_cmd.specs.Replies.{IsEvalAnswer, IsOfCase, IsOfSession, IsSessionReply}
use Rattle.gkr_cmd.specs.Replies.{IsVerifyAnswer, status_of}
use Rattle.gkr_cmd.specs.Runs.{HasCircuit, HasLineProof, HasWords, IsConvertible, IsEvaluable}

pub record RunLaws : Type 0 where
  pub evaluable : (input : List ℕ) (reply : Reply) → IsCaseReply Plain IsEvalAnswer input reply
      → IsOfCase Plain input IsEvaluable → status_of reply ≡ statuses.Done
  pub laid_out : (input : List ℕ) (reply : Reply) → IsCaseReply Plain IsCircuitAnswer input reply
      → IsOfCase Plain input HasCircuit → status_of reply ≡ statuses.Done
  pub provable : (kind : ProofKind) (input : List ℕ) (reply : Reply)
      → IsCaseReply Plain (IsProveAnswer kind) input reply
      → IsOfCase Plain input HasCircuit → status_of reply ≡ statuses.Done
  pub demo : (number : ℕ) (reply : Reply) → IsDemoAnswer number reply
      → status_of reply ≡ statuses.Done
  pub accepted : (input : List ℕ) (reply : Reply) → IsCaseReply Full IsVerifyAnswer input reply
      → IsOfCase Full input HasAcceptedProof → status_of reply ≡ statuses.Done
  pub audited : (input : List ℕ) (reply : Reply) → IsCaseReply Full IsAuditAnswer input reply
      → IsOfCase Full input HasLineProof → status_of reply ≡ statuses.Done
  pub in_session : (input : List ℕ) (reply : Reply) → IsSessionReply input reply
      → IsOfSession input HasWords → status_of reply ≡ statuses.Done
  pub one_audit : (c : Content) (audit other : Audit) → IsAudited c audit → IsAudited c other
      → audit ≡ other
  pub audit_verdict : (c : Content) (audit : Audit) → IsAudited c audit
      → IsVerdictOn c audit.verdict
  pub audit_meaning : (c : Content) (audit : Audit) → IsAudited c audit
      → IsTrue audit.same ↔ HasMeaning c
  pub audit_named : (c : Content) (audit : Audit) → IsAudited c audit
      → audit.verdict ≡ verdicts.Accepted → ¬ HasMeaning c → IsSome audit.challenge
  pub audit_unnamed : (version : ProofVersion) (c proved : Content)
      → IsProved (ByLines version) c proved
      → IsAudited proved names_nothing
  pub sound : (c : Content) → IsVerdictOn c verdicts.Accepted → ¬ HasMeaning c
      → (n : ℕ) × HasExceptionalChallenge c n
  pub proved_accepted : (kind : ProofKind) (c p : Content) → IsProved kind c p
      → IsVerdictOn p verdicts.Accepted
  pub proved_full : (kind : ProofKind) (c p : Content) → Fits c → IsProved kind c p
      → Spells Full (lower_case_text p) p
  pub proved_short : (kind : ProofKind) (c p : Content) → Fits c → IsProved kind c p
      → length (lower_case_text p) < 8388608
  pub convertible : (version : ProofVersion) (input : List ℕ) (reply : Reply)
      → IsCaseReply Full (IsConvertAnswer version) input reply
      → IsOfCase Full input (IsConvertible version) → status_of reply ≡ statuses.Done
  pub converted_reply : (version : ProofVersion) (c written : Content)
      → IsConverted version c written → (reply : Reply)
      → IsVerifyAnswer c reply ↔ IsVerifyAnswer written reply
  pub converted_full : (version : ProofVersion) (c written : Content) → Fits c
      → IsConverted version c written → Spells Full (lower_case_text written) written
  pub converted_short : (version : ProofVersion) (c written : Content) → Fits c
      → IsConverted version c written → length (lower_case_text written) < 8388608
  pub exactly : (form : Form) (bytes : List ℕ) (c : Content)
      → (reading form bytes ≡ Ok c) ↔ Spells form bytes c

-- Where `verify` ends well the case is accepted, and if its outputs aren't the meaning, some challenge is exceptional.
use Rattle.std.proofs.Common.{◌≡◌, ℕ, List, subst, Option, Some, Ok, refl}
use Rattle.case_text.specs.declared.case.form.Form.TheVariants.{Full}
use Rattle.case_text.specs.Content.{Content}
use Rattle.case_text.specs.Reading.{reading}
use Rattle.case_text.specs.declared.reply.Reply.{Reply}
use Rattle.case_text.specs.declared.reply.Reply.TheVariants as replies
use Rattle.case_prove.specs.Sound.{HasExceptionalChallenge, HasMeaning}
use Rattle.case_prove.specs.Verified.{HasAcceptedProof, IsVerdictOn, proof_form}
use Rattle.case_text.specs.declared.reply.verdict.VerdictLine.TheVariants as reported
use Rattle.gkr_layers.specs.declared.verdict.Verdict.{Verdict}
use Rattle.gkr_layers.specs.declared.verdict.Verdict.TheVariants as verdicts
use Rattle.gkr_cmd.specs.declared.status.Status.TheVariants.{Done}
use Rattle.gkr_words.specs.declared.words.Command.{Command}
use Rattle.gkr_words.specs.declared.words.CaseCommand.TheVariants.{Verify}
use Rattle.gkr_words.specs.declared.words.Command.TheVariants.{OfCase}
use Rattle.gkr_cmd.specs.Replies.{IsCommandReply, IsOfCase, IsVerifyAnswer, status_of}
use Rattle.gkr_cmd.specs.Reported.{verdict_line}
use Rattle.case_prove.proofs.api.AcceptedProofs.{meets, verdict_on}
use Rattle.gkr_cmd.proofs.OneReply.{Found, found, long, no_case, of_case}
use Rattle.gkr_cmd.proofs.ProofRefusals.{refusal_undone}
use Rattle.gkr_cmd.proofs.VerifyAnswers.{Answer, answer, no_verdict, verdict}
use Rattle.gkr_cmd.proofs.OneReply.{same_case as one_case}

-- the reply of one that is accepted
abbrev pub accepted_reply : Reply
accepted_reply = replies.Verdict reported.Accepted

by_verdict : (c : Content) (verdict : Verdict) → IsVerdictOn c verdict → status_of (replies.Verdict (verdict_line verdict)) ≡ Done → (replies.Verdict (verdict_line verdict) ≡ accepted_reply) × IsVerdictOn c verdicts.Accepted
by_verdict c verdicts.Accepted is e = (refl, is)
by_verdict c (verdicts.Sum layer round had claim) is e = absurd cc
by_verdict c (verdicts.End layer had want) is e = absurd cc
by_verdict c (verdicts.Input had want) is e = absurd cc

by_answer : (c : Content) {reply : Reply} → Answer c reply → status_of reply ≡ Done → (reply ≡ accepted_reply) × IsVerdictOn c verdicts.Accepted
by_answer c (no_verdict is) e = absurd (refusal_undone (proof_form c) c is e)
by_answer c (verdict v is) e = by_verdict c v is e

by_input : (input : List ℕ) {reply : Reply} → Found Full IsVerifyAnswer input reply → status_of reply ≡ Done → (reply ≡ accepted_reply) × IsOfCase Full input HasAcceptedProof
by_input input (long limit is) e = absurd cc
by_input input (no_case bad is) e = absurd cc
by_input input {reply} (of_case c within read is) e =
    let accepted = by_answer c (answer c reply is) e in (accepted.0, record { within = within; content = c; read = read; holds = meets c accepted.1 })

-- the reply of `verify` with status 0
pub accepted_of : (command : Option Command) (input : List ℕ) (reply : Reply) → command ≡ Some (OfCase Verify) → IsCommandReply command input reply → status_of reply ≡ Done →
    (reply ≡ accepted_reply) × IsOfCase Full input HasAcceptedProof
accepted_of command input reply is replied done =
    by_input input (found Full IsVerifyAnswer input reply (subst (λ c. IsCommandReply c input reply) is replied)) done

-- the law of soundness, for the case that the input spells
pub sound_of : ((c : Content) → IsVerdictOn c verdicts.Accepted → ¬ HasMeaning c → (n : ℕ) × HasExceptionalChallenge c n)
    → (input : List ℕ) (content : Content) → IsOfCase Full input HasAcceptedProof → reading Full input ≡ Ok content → ¬ HasMeaning content → (n : ℕ) × HasExceptionalChallenge content n
sound_of law input content case read wrong =
    law content (verdict_on content (subst HasAcceptedProof (one_case (reading Full input) case.content content case.read read) case.holds)) wrong

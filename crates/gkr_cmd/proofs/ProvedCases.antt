-- Where `prove` ends well, its text is that of the case with the one honest proof, and of an accepted case.
use Rattle.std.proofs.Common.{◌≡◌, ◌↔◌, ◌<◌, ℕ, List, length, subst, Option, Some, Ok, refl, arith}
use Rattle.case_text.specs.declared.case.form.Form.{Form}
use Rattle.case_text.specs.declared.case.form.Form.TheVariants.{Full, Plain}
use Rattle.proof_two.specs.declared.kind.ProofKind.{ProofKind}
use Rattle.case_text.specs.Content.{Content, Fits}
use Rattle.case_text.specs.Reading.{reading}
use Rattle.case_text.specs.Spelling.{Spells, lower_case_text}
use Rattle.case_text.specs.declared.reply.Reply.{Reply}
use Rattle.case_text.specs.declared.reply.Reply.TheVariants as replies
use Rattle.arr_compile.specs.declared.refused.BadProgram.TheVariants.{At, Deep, Wide}
use Rattle.case_prove.specs.Proved.{IsProved}
use Rattle.case_prove.specs.Verified.{HasAcceptedProof, IsVerdictOn}
use Rattle.gkr_layers.specs.declared.verdict.Verdict.TheVariants as verdicts
use Rattle.gkr_cmd.specs.declared.status.Status.TheVariants.{Done}
use Rattle.gkr_words.specs.declared.words.CaseCommand.TheVariants.{Prove}
use Rattle.gkr_words.specs.declared.words.Command.{Command}
use Rattle.gkr_words.specs.declared.words.Command.TheVariants.{OfCase}
use Rattle.gkr_cmd.specs.Replies.{IsCommandReply, IsOfCase, status_of}
use Rattle.case_prove.specs.Answers.{IsProveAnswer}
use Rattle.case_prove.proofs.api.AcceptedProofs.{meets}
use Rattle.gkr_cmd.proofs.OneReply.{Found, found, long, no_case, of_case}
use Rattle.gkr_cmd.proofs.ProveAnswers.{Answer, answer, refused, miscounted, proved}
use Rattle.gkr_cmd.proofs.OneReply.{same_case as one_case}

-- the reply is that of this case, proved
pub record ProvesIt (kind : ProofKind) (c : Content) (reply : Reply) : Type 0 where
  pub proved : Content
  pub reply_is : reply ≡ replies.Proved proved
  pub is_proved : IsProved kind c proved

-- the reply is that of the case that the input spells, proved
record ProvesInput (kind : ProofKind) (input : List ℕ) (reply : Reply) : Type 0 where
  content : Content
  read : reading Plain input ≡ Ok content
  proves : ProvesIt kind content reply

by_answer : (kind : ProofKind) (c : Content) {reply : Reply} → Answer kind c reply → status_of reply ≡ Done → ProvesIt kind c reply
by_answer kind c (refused (At at why) is) e = absurd cc
by_answer kind c (refused (Deep levels) is) e = absurd cc
by_answer kind c (refused (Wide height width) is) e = absurd cc
by_answer kind c (miscounted have need is) e = absurd cc
by_answer kind c (proved p is) e = record { proved = p; reply_is = refl; is_proved = is }

by_input : (kind : ProofKind) (input : List ℕ) {reply : Reply} → Found Plain (IsProveAnswer kind) input reply → status_of reply ≡ Done → ProvesInput kind input reply
by_input kind input (long limit is) e = absurd cc
by_input kind input (no_case bad is) e = absurd cc
by_input kind input {reply} (of_case c within read is) e = record { content = c; read = read; proves = by_answer kind c (answer kind c reply is) e }

-- the reply of `prove` with status 0, to the case that the input spells
pub proved_of : (workers : ℕ) (kind : ProofKind) (command : Option Command) (input : List ℕ) (content : Content) (reply : Reply) → command ≡ Some (OfCase (Prove workers kind)) → IsCommandReply command input reply → status_of reply ≡ Done
    → reading Plain input ≡ Ok content → ProvesIt kind content reply
proved_of workers kind command input content reply is replied done read =
    let case = by_input kind input (found Plain (IsProveAnswer kind) input reply (subst (λ c. IsCommandReply c input reply) is replied)) done in
    subst (λ c. ProvesIt kind c reply) (one_case (reading Plain input) case.content content case.read read) case.proves

-- by the laws of proved cases the text is one of an accepted case
pub accepted_text : (kind : ProofKind) → ((c p : Content) → IsProved kind c p → IsVerdictOn p verdicts.Accepted) → ((c p : Content) → Fits c → IsProved kind c p → Spells Full (lower_case_text p) p)
    → ((c p : Content) → Fits c → IsProved kind c p → length (lower_case_text p) < 8388608) → ((form : Form) (bytes : List ℕ) (c : Content) → (reading form bytes ≡ Ok c) ↔ Spells form bytes c)
    → (input : List ℕ) (c p : Content) → reading Plain input ≡ Ok c → IsProved kind c p → IsOfCase Full (lower_case_text p) HasAcceptedProof
accepted_text kind accepted full short exactly input c p read is =
    let spelled = (exactly Plain input c).0 read in
    let few = short c p spelled.fits is in
    record {
      within = omega (arith, few);
      content = p;
      read = (exactly Full (lower_case_text p) p).1 (full c p spelled.fits is);
      holds = meets p (accepted c p is);
    }

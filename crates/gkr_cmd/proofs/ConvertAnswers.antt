-- A case has at most one answer of `convert`, and that to a case that can be converted is the case that is written, with the verdicts of the case.
use Rattle.std.proofs.Common.{◌≡◌, ◌↔◌, ◌∙◌, ℕ, List, drop, subst, Option, Some, Ok, refl, sym, ap, arith}
use Rattle.io_edge.specs.Written.{Grows}
use Rattle.field_ext.specs.Field.{F}
use Rattle.circuit_core.specs.Parts.{Parts}
use Rattle.proof_wire.specs.declared.form.ProofForm.TheVariants.{Line}
use Rattle.proof_wire.specs.declared.messages.Messages.{Messages}
use Rattle.proof_wire.specs.Lists.{HaveShape}
use Rattle.circuit_core.specs.Sound.{exponents}
use Rattle.proof_two.specs.declared.kind.ProofVersion.{ProofVersion}
use Rattle.proof_two.specs.declared.kind.ProofVersion.TheVariants.{Two}
use Rattle.gkr_layers.specs.declared.verdict.Verdict.{Verdict}
use Rattle.gkr_layers.specs.declared.verdict.Verdict.TheVariants as verdicts
use Rattle.gkr_layers.specs.Equations.{first_failure}
use Rattle.gkr_verify.specs.declared.sums.LayerSum.{LayerSum}
use Rattle.gkr_verify.specs.Rounds.{layer_failure}
use Rattle.case_text.specs.Content.{Content}
use Rattle.case_text.specs.Reading.{reading}
use Rattle.case_text.specs.Replies.{reply_text}
use Rattle.case_text.specs.Spelling.{lower_case_text}
use Rattle.case_text.specs.declared.case.form.Form.TheVariants.{Full}
use Rattle.case_text.specs.declared.reply.Reply.{Reply}
use Rattle.case_text.specs.declared.reply.Reply.TheVariants as replies
use Rattle.case_text.specs.declared.reply.verdict.VerdictLine.{VerdictLine}
use Rattle.case_prove.specs.Converted.{FailsSum, IsConverted, own_sums}
use Rattle.case_prove.specs.Verified.{HasProof, IsVerdictOn, Says, transcript_verdict}
use Rattle.gkr_cmd.specs.declared.status.Status.TheVariants.{Done}
use Rattle.gkr_words.specs.declared.words.Command.{Command}
use Rattle.gkr_words.specs.declared.words.Command.TheVariants.{OfCase}
use Rattle.gkr_words.specs.declared.words.CaseCommand.TheVariants as commands
use Rattle.gkr_cmd.specs.Replies.{IsCommandReply, IsConvertAnswer, IsOfCase, IsSumLine, IsVerifyAnswer, status_of}
use Rattle.gkr_cmd.specs.RunLaws.{RunLaws}
use Rattle.gkr_cmd.specs.Runs.{IsConvertible, WritesConverted}
use Rattle.gkr_cmd.specs.Reported.{sum_line}
use Rattle.gkr_cmd.proofs.CircuitAnswers.{IsOne}
use Rattle.gkr_cmd.proofs.OneReply.{OneAnswer, Found, found, long, no_case, of_case}
use Rattle.gkr_cmd.proofs.VerifyAnswers.{answered_alike}
use Rattle.gkr_cmd.proofs.ProofRefusals.{IsOneProof, Refusal, refusal, refusal_undone, one_refusal, not_both, same_parts, same_outputs}
use Rattle.gkr_cmd.proofs.OneReply.{same_case as one_case}

abbrev pub OneConverted : Type 0
OneConverted = (version : ProofVersion) (c written other : Content) → IsConverted version c written → IsConverted version c other → written ≡ other

-- what is said of a case
data Answer (version : ProofVersion) (c : Content) : Reply → Type 0 where
  no_proof : {reply : Reply} → Refusal Line c reply → Answer version c reply
  converted : (written : Content) → IsConverted version c written → Answer version c (replies.Proved written)
  fails : (fault : LayerSum) → version ≡ Two → FailsSum c fault → Answer version c (replies.Verdict (sum_line fault))

with_line : (version : ProofVersion) (c : Content) (line : VerdictLine) → IsSumLine version c line → Answer version c (replies.Verdict line)
with_line version c line is = subst (λ l. Answer version c (replies.Verdict l)) (sym is.3) (fails is.0 is.1 is.2)

answer : (version : ProofVersion) (c : Content) (reply : Reply) → IsConvertAnswer version c reply → Answer version c reply
answer version c replies.Usage is = absurd is
answer version c (replies.TooLong limit) is = absurd is
answer version c (replies.Case bad) is = absurd is
answer version c (replies.Program kind at) is = no_proof (refusal Line c (replies.Program kind at) is)
answer version c (replies.Deep levels) is = no_proof (refusal Line c (replies.Deep levels) is)
answer version c (replies.Wide height width) is = no_proof (refusal Line c (replies.Wide height width) is)
answer version c (replies.InputCount have need) is = no_proof (refusal Line c (replies.InputCount have need) is)
answer version c (replies.Outputs outputs) is = absurd is
answer version c (replies.Circuit sizes) is = absurd is
answer version c (replies.Proved written) is = converted written is
answer version c (replies.Demo summary) is = absurd is
answer version c (replies.Served jobs) is = absurd is
answer version c (replies.History history) is = absurd is
answer version c (replies.OutputCount have need) is = no_proof (refusal Line c (replies.OutputCount have need) is)
answer version c (replies.Proof bad) is = no_proof (refusal Line c (replies.Proof bad) is)
answer version c (replies.Verdict line) is = with_line version c line is
answer version c (replies.Audit lines) is = absurd is
answer version c (replies.WordCount have need) is = absurd is
answer version c (replies.Session sizes) is = absurd is

-- the sums of a case, by any two readings of its proof
same_sums : IsOne → IsOneProof → (c : Content) (p q : Parts) (o r : List F) (m n : Messages) → HasProof Line c p o m → HasProof Line c q r n → own_sums c p o m ≡ own_sums c q r n
same_sums one proofs c p q o r m n has has' =
    let parts = same_parts one c p q o r has.claim has'.claim in
    let outputs = same_outputs c p q o r has.claim has'.claim in
    let shape = coe 0 1 (i. HaveShape Line (drop 1 (exponents (parts i))) m.layers) has.of_shape in
    let says = coe 0 1 (i. Says Line c (parts i) (outputs i) m) has.spelled in
    let messages : m ≡ n = proofs.reading Line c q r m n shape has'.of_shape says has'.spelled in
    λ i. own_sums c (parts i) (outputs i) (messages i)

no_accept : (fault : LayerSum) → layer_failure fault ≡ verdicts.Accepted → ⊥
no_accept fault e = cc

not_failing : IsOne → IsOneProof → (version : ProofVersion) (c written : Content) (fault : LayerSum) → version ≡ Two → IsConverted version c written → FailsSum c fault → ⊥
not_failing one proofs version c written fault two is is' =
    no_accept fault (sym is'.fails ∙ ap first_failure (same_sums one proofs c is'.parts is.parts is'.outputs is.outputs is'.messages is.messages is'.proof is.proof) ∙ is.sums two)

same_fault : IsOne → IsOneProof → (c : Content) (a b : LayerSum) → FailsSum c a → FailsSum c b → layer_failure a ≡ layer_failure b
same_fault one proofs c a b is is' =
    sym is.fails ∙ ap first_failure (same_sums one proofs c is.parts is'.parts is.outputs is'.outputs is.messages is'.messages is.proof is'.proof) ∙ is'.fails

same_line : (a b : LayerSum) → layer_failure a ≡ layer_failure b → sum_line a ≡ sum_line b
same_line a b e = cc

one_answer : IsOne → IsOneProof → OneConverted → (version : ProofVersion) (c : Content) {a b : Reply} → Answer version c a → Answer version c b → a ≡ b
one_answer one proofs law version c (no_proof is) (no_proof is') = one_refusal one proofs Line c is is'
one_answer one proofs law version c (no_proof is) (converted written is') = absurd (not_both one proofs Line c is'.parts is'.outputs is'.messages is is'.proof)
one_answer one proofs law version c (no_proof is) (fails fault two is') = absurd (not_both one proofs Line c is'.parts is'.outputs is'.messages is is'.proof)
one_answer one proofs law version c (converted written is) (no_proof is') = absurd (not_both one proofs Line c is.parts is.outputs is.messages is' is.proof)
one_answer one proofs law version c (converted written is) (converted other is') = ap replies.Proved (law version c written other is is')
one_answer one proofs law version c (converted written is) (fails fault two is') = absurd (not_failing one proofs version c written fault two is is')
one_answer one proofs law version c (fails fault two is) (no_proof is') = absurd (not_both one proofs Line c is.parts is.outputs is.messages is' is.proof)
one_answer one proofs law version c (fails fault two is) (converted written is') = absurd (not_failing one proofs version c written fault two is' is)
one_answer one proofs law version c (fails fault two is) (fails fault' two' is') = ap replies.Verdict (same_line fault fault' (same_fault one proofs c fault fault' is is'))

pub one_convert : IsOne → IsOneProof → OneConverted → (version : ProofVersion) → OneAnswer (IsConvertAnswer version)
one_convert one proofs law version c a b is is' = one_answer one proofs law version c (answer version c a is) (answer version c b is')

answer_done : IsOne → IsOneProof → (version : ProofVersion) (c : Content) {reply : Reply} → IsConvertible version c → Answer version c reply → status_of reply ≡ Done
answer_done one proofs version c can (no_proof is) = absurd (not_both one proofs Line c can.is_converted.parts can.is_converted.outputs can.is_converted.messages is can.is_converted.proof)
answer_done one proofs version c can (converted written is) = refl
answer_done one proofs version c can (fails fault two is) = absurd (not_failing one proofs version c can.written fault two can.is_converted is)

pub convert_done : IsOne → IsOneProof → (version : ProofVersion) (c : Content) (reply : Reply) → IsConvertible version c → IsConvertAnswer version c reply → status_of reply ≡ Done
convert_done one proofs version c reply can is = answer_done one proofs version c can (answer version c reply is)

-- ---- `verify` replies to both alike

-- the verdict on what can be converted
judged : (version : ProofVersion) (c written : Content) (is : IsConverted version c written) → IsVerdictOn c (transcript_verdict Line c is.parts is.outputs is.messages)
judged version c written is = record {
  parts = is.parts;
  outputs = is.outputs;
  claim = is.proof.claim;
  as_many = is.proof.as_many;
  form = Line;
  messages = is.messages;
  of_shape = is.proof.of_shape;
  spelled = is.proof.spelled;
  verdict_is = refl;
}

abbrev KeepsVerdicts : Type 0
KeepsVerdicts = (version : ProofVersion) (c written : Content) → IsConverted version c written → (verdict : Verdict) → IsVerdictOn c verdict ↔ IsVerdictOn written verdict

pub replied_alike : IsOne → IsOneProof → KeepsVerdicts → (version : ProofVersion) (c written : Content) → IsConverted version c written → (reply : Reply) → IsVerifyAnswer c reply ↔ IsVerifyAnswer written reply
replied_alike one proofs keeps version c written is reply =
    answered_alike one proofs c written (transcript_verdict Line c is.parts is.outputs is.messages) (judged version c written is) (keeps version c written is) reply

-- ---- the reply of `convert` with status 0

-- the case that a reply is
pub record TellsCase (version : ProofVersion) (c : Content) (reply : Reply) : Type 0 where
  pub written : Content
  pub is_converted : IsConverted version c written
  pub reply_is : reply ≡ replies.Proved written

told_by_answer : (version : ProofVersion) (c : Content) {reply : Reply} → Answer version c reply → status_of reply ≡ Done → TellsCase version c reply
told_by_answer version c (no_proof is) e = absurd (refusal_undone Line c is e)
told_by_answer version c (converted written is) e = record { written = written; is_converted = is; reply_is = refl }
told_by_answer version c (fails fault two is) e = absurd cc

by_input : (version : ProofVersion) (input : List ℕ) {reply : Reply} → Found Full (IsConvertAnswer version) input reply → status_of reply ≡ Done → IsOfCase Full input (λ c. TellsCase version c reply)
by_input version input (long limit is) e = absurd cc
by_input version input (no_case bad is) e = absurd cc
by_input version input {reply} (of_case c within read is) e = record { within = within; content = c; read = read; holds = told_by_answer version c (answer version c reply is) e }

pub converted_of : (version : ProofVersion) (command : Option Command) (input : List ℕ) (reply : Reply) → command ≡ Some (OfCase (commands.Convert version)) → IsCommandReply command input reply → status_of reply ≡ Done → IsOfCase Full input (λ c. TellsCase version c reply)
converted_of version command input reply is replied done = by_input version input (found Full (IsConvertAnswer version) input reply (subst (λ c. IsCommandReply c input reply) is replied)) done

-- the case can be converted
pub convertible_of : (version : ProofVersion) (input : List ℕ) (reply : Reply) → IsOfCase Full input (λ c. TellsCase version c reply) → IsOfCase Full input (IsConvertible version)
convertible_of version input reply case = record { within = case.within; content = case.content; read = case.read; holds = record { written = case.holds.written; is_converted = case.holds.is_converted } }

writes : RunLaws → (version : ProofVersion) (input : List ℕ) (c : Content) (reply : Reply) (before after : Option (List ℕ)) → reading Full input ≡ Ok c → TellsCase version c reply → Grows before after (reply_text reply) → WritesConverted version c before after
writes laws version input c reply before after read tells written =
    let spelled = (laws.exactly Full input c).0 read in
    let few = laws.converted_short version c tells.written spelled.fits tells.is_converted in
    record {
      converted = tells.written;
      is_converted = tells.is_converted;
      written = subst (λ r. Grows before after (reply_text r)) tells.reply_is written;
      same = record {
        within = omega (arith, few);
        content = tells.written;
        read = (laws.exactly Full (lower_case_text tells.written) tells.written).1 (laws.converted_full version c tells.written spelled.fits tells.is_converted);
        holds = laws.converted_reply version c tells.written tells.is_converted;
      };
    }

-- what is written is the case that the input spells, with its proof in the version
pub writes_converted : RunLaws → (version : ProofVersion) (input : List ℕ) (content : Content) (reply : Reply) (before after : Option (List ℕ)) → IsOfCase Full input (λ c. TellsCase version c reply) → reading Full input ≡ Ok content → Grows before after (reply_text reply) → WritesConverted version content before after
writes_converted laws version input content reply before after case read written =
    writes laws version input content reply before after read (subst (λ c. TellsCase version c reply) (one_case (reading Full input) case.content content case.read read) case.holds) written

-- Words and an input have at most one reply, where each case has at most one answer.
use Rattle.std.proofs.Common.{◌≡◌, ℕ, List, subst, Option, Some, None, Result, Ok, Err, sym, ap, ◌∙◌, arith}
use Rattle.case_text.specs.declared.case.form.Form.{Form}
use Rattle.proof_two.specs.declared.kind.ProofKind.{ProofKind}
use Rattle.proof_two.specs.declared.kind.ProofVersion.{ProofVersion}
use Rattle.proof_two.specs.declared.kind.ProofKind.TheVariants.{ByLines}
use Rattle.proof_two.specs.declared.kind.ProofVersion.TheVariants.{One}
use Rattle.case_text.specs.Content.{Content}
use Rattle.case_text.specs.Reading.{reading}
use Rattle.case_text.specs.declared.case.refusal.BadCase.{BadCase}
use Rattle.case_text.specs.declared.reply.Reply.{Reply}
use Rattle.case_text.specs.declared.reply.Reply.TheVariants as replies
use Rattle.gkr_cmd.specs.declared.status.Status.TheVariants.{Done}
use Rattle.gkr_words.specs.declared.words.Command.{Command}
use Rattle.gkr_words.specs.declared.words.Command.TheVariants.{OfCase, Demo, Serve, ServeHistory, Session}
use Rattle.gkr_words.specs.declared.words.CaseCommand.{CaseCommand}
use Rattle.gkr_words.specs.declared.words.CaseCommand.TheVariants.{Eval, Circuit, Prove, Verify, Audit, Convert}
use Rattle.gkr_words.specs.Commands.{PrintsHistory, case_limit, command_of}
use Rattle.gkr_cmd.proofs.ScriptReplies.{one_script}
use Rattle.gkr_cmd.specs.Replies.{IsWithinLimit, IsOfCase, IsNoCase, IsTooLong, IsCaseReply, IsAnswer, IsAuditAnswer, IsConvertAnswer, IsEvalAnswer, IsCircuitAnswer, IsDemoAnswer, IsVerifyAnswer, form_of, IsCommandReply, IsReply, IsSessionReply, status_of}
use Rattle.case_prove.specs.Answers.{IsProveAnswer}

-- a case has at most one answer
abbrev pub OneAnswer : (Content → Reply → Type 0) → Type 0
OneAnswer answers = (c : Content) (a b : Reply) → answers c a → answers c b → a ≡ b

-- what is said of an input
pub data Found (form : Form) (answers : Content → Reply → Type 0) (input : List ℕ) : Reply → Type 0 where
  long : (limit : ℕ) → IsTooLong case_limit input limit → Found form answers input (replies.TooLong limit)
  no_case : (bad : BadCase) → IsNoCase form input bad → Found form answers input (replies.Case bad)
  of_case : {reply : Reply} (c : Content) → IsWithinLimit input → reading form input ≡ Ok c → answers c reply → Found form answers input reply

pub found : (form : Form) (answers : Content → Reply → Type 0) (input : List ℕ) (reply : Reply) → IsCaseReply form answers input reply → Found form answers input reply
found form answers input replies.Usage is = absurd is
found form answers input (replies.TooLong limit) is = long limit is
found form answers input (replies.Case bad) is = no_case bad is
found form answers input (replies.Program kind at) is = of_case is.content is.within is.read is.holds
found form answers input (replies.Deep levels) is = of_case is.content is.within is.read is.holds
found form answers input (replies.Wide height width) is = of_case is.content is.within is.read is.holds
found form answers input (replies.InputCount have need) is = of_case is.content is.within is.read is.holds
found form answers input (replies.Outputs outputs) is = of_case is.content is.within is.read is.holds
found form answers input (replies.Circuit sizes) is = of_case is.content is.within is.read is.holds
found form answers input (replies.Proved proved) is = of_case is.content is.within is.read is.holds
found form answers input (replies.Demo summary) is = of_case is.content is.within is.read is.holds
found form answers input (replies.Served jobs) is = of_case is.content is.within is.read is.holds
found form answers input (replies.History history) is = of_case is.content is.within is.read is.holds
found form answers input (replies.OutputCount have need) is = of_case is.content is.within is.read is.holds
found form answers input (replies.Proof bad) is = of_case is.content is.within is.read is.holds
found form answers input (replies.Verdict line) is = of_case is.content is.within is.read is.holds
found form answers input (replies.Audit lines) is = of_case is.content is.within is.read is.holds
found form answers input (replies.WordCount have need) is = of_case is.content is.within is.read is.holds
found form answers input (replies.Session sizes) is = of_case is.content is.within is.read is.holds

pub same_case : (r : Result Content BadCase) (c d : Content) → r ≡ Ok c → r ≡ Ok d → c ≡ d
same_case r c d is is' = cc

same_stop : (r : Result Content BadCase) (a b : BadCase) → r ≡ Err a → r ≡ Err b → a ≡ b
same_stop r a b is is' = cc

case_or_not : (r : Result Content BadCase) (c : Content) (bad : BadCase) → r ≡ Ok c → r ≡ Err bad → ⊥
case_or_not r c bad is is' = cc

pub long_or_not : (input : List ℕ) (limit : ℕ) → IsTooLong case_limit input limit → IsWithinLimit input → ⊥
long_or_not input limit is within = let longer = is.longer in omega arith

one_found : (form : Form) (answers : Content → Reply → Type 0) → OneAnswer answers → (input : List ℕ) {a b : Reply} → Found form answers input a → Found form answers input b → a ≡ b
one_found form answers one input (long limit is) (long limit' is') = ap replies.TooLong (is.limit_is ∙ sym is'.limit_is)
one_found form answers one input (long limit is) (no_case bad is') = absurd (long_or_not input limit is is'.within)
one_found form answers one input (long limit is) (of_case c within read answer) = absurd (long_or_not input limit is within)
one_found form answers one input (no_case bad is) (long limit is') = absurd (long_or_not input limit is' is.within)
one_found form answers one input (no_case bad is) (no_case bad' is') = ap replies.Case (same_stop (reading form input) bad bad' is.read is'.read)
one_found form answers one input (no_case bad is) (of_case c within read answer) = absurd (case_or_not (reading form input) c bad read is.read)
one_found form answers one input (of_case c within read answer) (long limit is) = absurd (long_or_not input limit is within)
one_found form answers one input (of_case c within read answer) (no_case bad is) = absurd (case_or_not (reading form input) c bad read is.read)
one_found form answers one input {a} {b} (of_case c within read answer) (of_case d within' read' answer') =
    let same = same_case (reading form input) d c read' read in
    one c a b answer (subst (λ e. answers e b) same answer')

-- each command has at most one answer to a case
pub record OneEach : Type 0 where
  pub eval : OneAnswer IsEvalAnswer
  pub circuit : OneAnswer IsCircuitAnswer
  pub prove : (kind : ProofKind) → OneAnswer (IsProveAnswer kind)
  pub verify : OneAnswer IsVerifyAnswer
  pub audit : OneAnswer IsAuditAnswer
  pub convert : (version : ProofVersion) → OneAnswer (IsConvertAnswer version)
  pub session : (input : List ℕ) (a b : Reply) → IsSessionReply input a → IsSessionReply input b → a ≡ b
  pub demo : (number : ℕ) (a b : Reply) → IsDemoAnswer number a → IsDemoAnswer number b → a ≡ b

one_of_each : OneEach → (command : CaseCommand) → OneAnswer (IsAnswer command)
one_of_each one Eval = one.eval
one_of_each one Circuit = one.circuit
one_of_each one (Prove workers kind) = one.prove kind
one_of_each one Verify = one.verify
one_of_each one Audit = one.audit
one_of_each one (Convert version) = one.convert version

one_of_command : OneEach → (command : Option Command) (input : List ℕ) (a b : Reply) → ¬ PrintsHistory command → IsCommandReply command input a → IsCommandReply command input b → a ≡ b
one_of_command one None input a b told is is' = is ∙ sym is'
one_of_command one (Some (OfCase command)) input a b told is is' =
    let found_in = found (form_of command) (IsAnswer command) input in
    one_found (form_of command) (IsAnswer command) (one_of_each one command) input (found_in a is) (found_in b is')
one_of_command one (Some (Demo number workers)) input a b told is is' = one.demo number a b is is'
one_of_command one (Some (Serve workers provers clients)) input a b told is is' = one_script (one.prove (ByLines One)) input a b is is'
one_of_command one (Some (ServeHistory workers provers clients)) input a b told is is' = absurd (told tt)
one_of_command one (Some (Session piece workers)) input a b told is is' = one.session input a b is is'

pub one_reply : OneEach → (words : List (List ℕ)) (input : List ℕ) (a b : Reply) → ¬ PrintsHistory (command_of words) → IsReply words input a → IsReply words input b → a ≡ b
one_reply one words input a b told is is' = one_of_command one (command_of words) input a b told is is'

-- where each answer to such a case is a success, so is the reply to an input that is one
found_done : (form : Form) (answers : Content → Reply → Type 0) (P : Content → Type 0) → ((c : Content) (reply : Reply) → P c → answers c reply → status_of reply ≡ Done)
    → (input : List ℕ) {reply : Reply} → Found form answers input reply → IsOfCase form input P → status_of reply ≡ Done
found_done form answers P each input (long limit is) case = absurd (long_or_not input limit is case.within)
found_done form answers P each input (no_case bad is) case = absurd (case_or_not (reading form input) case.content bad case.read is.read)
found_done form answers P each input {reply} (of_case c within read answer) case =
    each c reply (subst P (same_case (reading form input) case.content c case.read read) case.holds) answer

pub done : (form : Form) (answers : Content → Reply → Type 0) (P : Content → Type 0) → ((c : Content) (reply : Reply) → P c → answers c reply → status_of reply ≡ Done)
    → (input : List ℕ) (reply : Reply) → IsCaseReply form answers input reply → IsOfCase form input P → status_of reply ≡ Done
done form answers P each input reply is case = found_done form answers P each input (found form answers input reply is) case

-- The reply to words and the bytes of the input, as a table: when each reply is the one.
use Rattle.std.specs.Prelude.{◌≡◌, ◌<◌, ◌≤◌, ℕ, List, length, Option, Some, None, Ok, Err}
use Rattle.arr_compile.specs.Programs.{IsRefusedAs}
use Rattle.audit_core.specs.declared.report.Audit.{Audit}
use Rattle.proof_wire.specs.declared.form.ProofForm.{ProofForm}
use Rattle.proof_wire.specs.declared.form.ProofForm.TheVariants.{Line}
use Rattle.proof_two.specs.declared.kind.ProofVersion.{ProofVersion}
use Rattle.proof_two.specs.declared.kind.ProofVersion.TheVariants.{Two}
use Rattle.gkr_verify.specs.declared.sums.LayerSum.{LayerSum}
use Rattle.case_text.specs.declared.case.form.Form.{Form}
use Rattle.case_text.specs.declared.case.form.Form.TheVariants.{Plain, Full}
use Rattle.case_text.specs.Content.{Content}
use Rattle.case_text.specs.Reading.{reading}
use Rattle.case_text.specs.declared.case.refusal.BadCase.{BadCase}
use Rattle.case_text.specs.declared.reply.Reply.{Reply}
use Rattle.case_text.specs.declared.reply.Reply.TheVariants as replies
use Rattle.arr_compile.specs.Circuits.{IsTooLarge}
use Rattle.layer_compile.specs.declared.refused.LayerRefused.TheVariants as layout
use Rattle.case_prove.specs.Circuits.{IsLaidOut, IsCircuitMiscounted}
use Rattle.case_prove.specs.Evaluated.{IsEvaluated, IsMiscounted}
use Rattle.case_prove.specs.Audited.{IsAudited}
use Rattle.case_prove.specs.Converted.{FailsSum, IsConverted}
use Rattle.case_prove.specs.Verified.{IsVerdictOn, IsOutputMiscounted, IsBadProof, proof_form}
use Rattle.case_text.specs.declared.reply.verdict.AuditLines.{AuditLines}
use Rattle.case_text.specs.declared.reply.verdict.VerdictLine.{VerdictLine}
use Rattle.case_text.specs.declared.reply.verdict.VerdictLine.TheVariants as reported
use Rattle.gkr_layers.specs.declared.verdict.Verdict.{Verdict}
use Rattle.gkr_cmd.specs.Reported.{audit_lines, sum_line, verdict_line}
use Rattle.gkr_cmd.specs.declared.status.Status.{Status}
use Rattle.gkr_cmd.specs.declared.status.Status.TheVariants as statuses
use Rattle.gkr_words.specs.declared.words.CaseCommand.{CaseCommand}
use Rattle.gkr_words.specs.declared.words.CaseCommand.TheVariants as commands
use Rattle.gkr_words.specs.declared.words.Command.{Command}
use Rattle.gkr_words.specs.declared.words.Command.TheVariants.{OfCase, Demo, Serve, ServeHistory, Session}
use Rattle.case_prove.specs.Answers.{IsProveAnswer}
use Rattle.case_text.specs.Histories.{History}
use Rattle.case_text.specs.Served.{Served}
use Rattle.script_text.specs.declared.script.MarkedJob.{MarkedJob}
use Rattle.script_text.specs.declared.script.ScriptJob.{ScriptJob}
use Rattle.script_text.specs.Scripts.{history_script_reading, script_reading}
use Rattle.script_prove.specs.Served.{AreServed, IsServedHistory}
use Rattle.session_text.specs.Sessions.{SessionContent, session_reading}
use Rattle.session_prove.specs.Sessions.{IsSession, IsWordMiscounted}
use Rattle.gkr_words.specs.Commands.{case_limit, command_of, script_limit}
use Rattle.gkr_cmd.specs.Demo.{IsDemo}

-- The input is no longer than a case may be.
abbrev pub IsWithinLimit : List ℕ → Type 0
IsWithinLimit input = length input ≤ case_limit

-- The input is a case's text of this form, and this holds of the case.
pub record IsOfCase (form : Form) (input : List ℕ) (P : Content → Type 0) : Type 0 where
  pub within : IsWithinLimit input
  pub content : Content
  pub read : reading form input ≡ Ok content
  pub holds : P content

-- The input is within the limit and no case's text, for this reason at this place.
pub record IsNoCase (form : Form) (input : List ℕ) (bad : BadCase) : Type 0 where
  pub within : IsWithinLimit input
  pub read : reading form input ≡ Err bad

-- The input is longer than it may be.
pub record IsTooLong (most : ℕ) (input : List ℕ) (limit : ℕ) : Type 0 where
  pub limit_is : limit ≡ most
  pub longer : most < length input

-- when a reply is what `eval` says of a case
abbrev pub IsEvalAnswer : Content → Reply → Type 0
IsEvalAnswer c (replies.Program kind at) = IsRefusedAs c.lang c.program at kind
IsEvalAnswer c (replies.InputCount have need) = IsMiscounted c have need
IsEvalAnswer c (replies.Outputs outputs) = IsEvaluated c outputs
IsEvalAnswer c reply = ⊥

-- when a reply is what `circuit` says of a case
abbrev pub IsCircuitAnswer : Content → Reply → Type 0
IsCircuitAnswer c (replies.Program kind at) = IsRefusedAs c.lang c.program at kind
IsCircuitAnswer c (replies.Deep levels) = IsTooLarge c.lang c.program (layout.Deep levels)
IsCircuitAnswer c (replies.Wide height width) =
    IsTooLarge c.lang c.program (layout.Wide height width)
IsCircuitAnswer c (replies.InputCount have need) = IsCircuitMiscounted c have need
IsCircuitAnswer c (replies.Circuit sizes) = IsLaidOut c sizes
IsCircuitAnswer c reply = ⊥

-- when a reply is the refusal of a case whose proof is read as one of this form
abbrev pub IsProofRefusal : ProofForm → Content → Reply → Type 0
IsProofRefusal form c (replies.Program kind at) = IsRefusedAs c.lang c.program at kind
IsProofRefusal form c (replies.Deep levels) = IsTooLarge c.lang c.program (layout.Deep levels)
IsProofRefusal form c (replies.Wide height width) =
    IsTooLarge c.lang c.program (layout.Wide height width)
IsProofRefusal form c (replies.InputCount have need) = IsCircuitMiscounted c have need
IsProofRefusal form c (replies.OutputCount have need) = IsOutputMiscounted c have need
IsProofRefusal form c (replies.Proof bad) = IsBadProof form c bad
IsProofRefusal form c reply = ⊥

-- The line is the one on a proof with the verdict on the case's.
abbrev pub IsVerdictLine : Content → VerdictLine → Type 0
IsVerdictLine c line = (verdict : Verdict) × IsVerdictOn c verdict × (line ≡ verdict_line verdict)

-- when a reply is what `verify` says of a case, whose proof it reads in the form that its fourth byte names
abbrev pub IsVerifyAnswer : Content → Reply → Type 0
IsVerifyAnswer c (replies.Verdict line) = IsVerdictLine c line
IsVerifyAnswer c reply = IsProofRefusal (proof_form c) c reply

-- The lines are those of the audit of the case.
abbrev pub AreAuditLines : Content → AuditLines → Type 0
AreAuditLines c lines = (audit : Audit) × IsAudited c audit × (lines ≡ audit_lines audit)

-- when a reply is what `audit` says of a case, whose proof it reads as one by lines
abbrev pub IsAuditAnswer : Content → Reply → Type 0
IsAuditAnswer c (replies.Audit lines) = AreAuditLines c lines
IsAuditAnswer c reply = IsProofRefusal Line c reply

-- The line is the one on the first sum equation that fails, which keeps the case's proof from version 2.
abbrev pub IsSumLine : ProofVersion → Content → VerdictLine → Type 0
IsSumLine version c line =
    (fault : LayerSum) × (version ≡ Two) × FailsSum c fault × (line ≡ sum_line fault)

-- when a reply is what `convert` says of a case, whose proof it reads as one by lines
abbrev pub IsConvertAnswer : ProofVersion → Content → Reply → Type 0
IsConvertAnswer version c (replies.Proved written) = IsConverted version c written
IsConvertAnswer version c (replies.Verdict line) = IsSumLine version c line
IsConvertAnswer version c reply = IsProofRefusal Line c reply

-- when a reply is the one of a command that reads a case of this form, and says this of it
abbrev pub IsCaseReply : Form → (Content → Reply → Type 0) → List ℕ → Reply → Type 0
IsCaseReply form answers input replies.Usage = ⊥
IsCaseReply form answers input (replies.TooLong limit) = IsTooLong case_limit input limit
IsCaseReply form answers input (replies.Case bad) = IsNoCase form input bad
IsCaseReply form answers input reply = IsOfCase form input (λ c. answers c reply)

-- the form of the case that a command reads
abbrev pub form_of : CaseCommand → Form
form_of commands.Eval = Plain
form_of commands.Circuit = Plain
form_of (commands.Prove workers kind) = Plain
form_of commands.Verify = Full
form_of commands.Audit = Full
form_of (commands.Convert version) = Full

-- when a reply is what a command says of a case
abbrev pub IsAnswer : CaseCommand → Content → Reply → Type 0
IsAnswer commands.Eval = IsEvalAnswer
IsAnswer commands.Circuit = IsCircuitAnswer
IsAnswer (commands.Prove workers kind) = IsProveAnswer kind
IsAnswer commands.Verify = IsVerifyAnswer
IsAnswer commands.Audit = IsAuditAnswer
IsAnswer (commands.Convert version) = IsConvertAnswer version

-- when a reply is the one of `demo`, whose case is always proved and accepted
abbrev pub IsDemoAnswer : ℕ → Reply → Type 0
IsDemoAnswer number (replies.Demo summary) = IsDemo number summary
IsDemoAnswer number reply = ⊥

-- The input is a session's text, and this holds of its case and words.
pub record IsOfSession (input : List ℕ) (P : SessionContent → Type 0) : Type 0 where
  pub within : IsWithinLimit input
  pub content : SessionContent
  pub read : session_reading input ≡ Ok content
  pub holds : P content

-- The input is within the limit and no session's text, for this reason at this place.
pub record IsNoSession (input : List ℕ) (bad : BadCase) : Type 0 where
  pub within : IsWithinLimit input
  pub read : session_reading input ≡ Err bad

-- when a reply is what `session` says of a case and its words
abbrev pub IsSessionAnswer : SessionContent → Reply → Type 0
IsSessionAnswer s (replies.Program kind at) = IsRefusedAs s.case.lang s.case.program at kind
IsSessionAnswer s (replies.Deep levels) = IsTooLarge s.case.lang s.case.program (layout.Deep levels)
IsSessionAnswer s (replies.Wide height width) =
    IsTooLarge s.case.lang s.case.program (layout.Wide height width)
IsSessionAnswer s (replies.InputCount have need) = IsCircuitMiscounted s.case have need
IsSessionAnswer s (replies.WordCount have need) = IsWordMiscounted s.case s.words have need
IsSessionAnswer s (replies.Session sizes) = IsSession s.case s.words sizes
IsSessionAnswer s reply = ⊥

-- when a reply is the one of `session`, which is the same for pieces of any size
abbrev pub IsSessionReply : List ℕ → Reply → Type 0
IsSessionReply input replies.Usage = ⊥
IsSessionReply input (replies.TooLong limit) = IsTooLong case_limit input limit
IsSessionReply input (replies.Case bad) = IsNoSession input bad
IsSessionReply input reply = IsOfSession input (λ s. IsSessionAnswer s reply)

-- The input is within the limit and no script's text, for this reason at this place.
pub record IsNoScript (input : List ℕ) (bad : BadCase) : Type 0 where
  pub within : length input ≤ script_limit
  pub read : script_reading input ≡ Err bad

-- The input is a script's text, and these are the replies of `prove` to its jobs, in its order.
pub record IsServedScript (input : List ℕ) (served : List Served) : Type 0 where
  pub within : length input ≤ script_limit
  pub script : List ScriptJob
  pub read : script_reading input ≡ Ok script
  pub replies : AreServed script served

-- when a reply is the one of `serve`
abbrev pub IsScriptReply : List ℕ → Reply → Type 0
IsScriptReply input (replies.TooLong limit) = IsTooLong script_limit input limit
IsScriptReply input (replies.Case bad) = IsNoScript input bad
IsScriptReply input (replies.Served served) = IsServedScript input served
IsScriptReply input reply = ⊥

-- The input is within the limit and no text of a script whose jobs may be withdrawn.
pub record IsNoHistoryScript (input : List ℕ) (bad : BadCase) : Type 0 where
  pub within : length input ≤ script_limit
  pub read : history_script_reading input ≡ Err bad

-- The input is a text of such a script, and these are the replies to its jobs and a legal
-- history of a table with them.
pub record IsKnownScript (input : List ℕ) (history : History) : Type 0 where
  pub within : length input ≤ script_limit
  pub script : List MarkedJob
  pub read : history_script_reading input ≡ Ok script
  pub reported : IsServedHistory script history.jobs history.lines

-- when a reply is one of `serve --history`
abbrev pub IsHistoryReply : List ℕ → Reply → Type 0
IsHistoryReply input (replies.TooLong limit) = IsTooLong script_limit input limit
IsHistoryReply input (replies.Case bad) = IsNoHistoryScript input bad
IsHistoryReply input (replies.History history) = IsKnownScript input history
IsHistoryReply input reply = ⊥

-- when a reply is one of a command, or of words that name none
abbrev pub IsCommandReply : Option Command → List ℕ → Reply → Type 0
IsCommandReply None input reply = reply ≡ replies.Usage
IsCommandReply (Some (OfCase command)) input reply = IsCaseReply (form_of command)
    (IsAnswer command) input reply
IsCommandReply (Some (Demo number workers)) input reply = IsDemoAnswer number reply
IsCommandReply (Some (Serve workers provers clients)) input reply = IsScriptReply input reply
IsCommandReply (Some (ServeHistory workers provers clients)) input reply =
    IsHistoryReply input reply
IsCommandReply (Some (Session piece workers)) input reply = IsSessionReply input reply

-- A reply to the words, and to the input of the command that they name.
abbrev pub IsReply : List (List ℕ) → List ℕ → Reply → Type 0
IsReply words input reply = IsCommandReply (command_of words) input reply

-- the status that reports a verdict
abbrev pub verdict_status : VerdictLine → Status
verdict_status reported.Accepted = statuses.Done
verdict_status (reported.Sum layer round had claim) = statuses.Rejected
verdict_status (reported.End layer had want) = statuses.Rejected
verdict_status (reported.Input had want) = statuses.Rejected

abbrev pub status_of : Reply → Status
status_of (replies.Outputs values) = statuses.Done
status_of replies.Usage = statuses.Usage
status_of (replies.TooLong limit) = statuses.TooLong
status_of (replies.Case bad) = statuses.BadCase
status_of (replies.Program kind at) = statuses.BadProgram
status_of (replies.Deep levels) = statuses.BadProgram
status_of (replies.Wide height width) = statuses.BadProgram
status_of (replies.InputCount have need) = statuses.BadCount
status_of (replies.OutputCount have need) = statuses.BadCount
status_of (replies.Proof bad) = statuses.BadProof
status_of (replies.Circuit sizes) = statuses.Done
status_of (replies.Proved proved) = statuses.Done
status_of (replies.Demo summary) = statuses.Done
status_of (replies.Served jobs) = statuses.Done
status_of (replies.History history) = statuses.Done
status_of (replies.Verdict line) = verdict_status line
status_of (replies.Audit audit) = statuses.Done
status_of (replies.WordCount have need) = statuses.BadCount
status_of (replies.Session sizes) = statuses.Done

-- the number that the program ends with
abbrev pub code_of : Status → ℕ
code_of statuses.Done = 0
code_of statuses.Rejected = 1
code_of statuses.Usage = 2
code_of statuses.BadCase = 3
code_of statuses.BadProgram = 4
code_of statuses.BadCount = 5
code_of statuses.BadProof = 6
code_of statuses.ReadFault = 7
code_of statuses.WriteFault = 8
code_of statuses.Memory = 9
code_of statuses.TooLong = 10

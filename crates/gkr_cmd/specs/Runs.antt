-- What a run does with its reply.
use Rattle.std.specs.Prelude.{◌≡◌, ◌↔◌, ℕ, List, [], Some, None, ⊤, Option, IsSome, IsTrue, length}
use Rattle.io_edge.specs.Written.{Grows}
use Rattle.arr_ast.specs.ProgramTree.{ProgramTree}
use Rattle.arr_run.specs.Program.{input_count}
use Rattle.arr_compile.specs.Programs.{IsAccepted}
use Rattle.arr_compile.specs.Circuits.{IsCompiled}
use Rattle.audit_core.specs.Audit.{names_nothing}
use Rattle.audit_core.specs.declared.report.Audit.{Audit}
use Rattle.circuit_core.specs.Parts.{Parts}
use Rattle.field_ext.specs.Field.{F}
use Rattle.gkr_layers.specs.declared.verdict.Verdict.TheVariants.{Accepted}
use Rattle.case_prove.specs.Audited.{IsAudited}
use Rattle.case_prove.specs.Converted.{IsConverted}
use Rattle.case_prove.specs.Proved.{IsProved}
use Rattle.case_prove.specs.Sound.{HasMeaning}
use Rattle.case_prove.specs.Verified.{HasAcceptedProof, HasProof, IsVerdictOn}
use Rattle.proof_two.specs.declared.kind.ProofKind.{ProofKind}
use Rattle.proof_two.specs.declared.kind.ProofKind.TheVariants.{ByLines}
use Rattle.proof_two.specs.declared.kind.ProofVersion.{ProofVersion}
use Rattle.proof_wire.specs.declared.form.ProofForm.TheVariants.{Line}
use Rattle.proof_wire.specs.declared.messages.Messages.{Messages}
use Rattle.case_text.specs.Content.{Content}
use Rattle.case_text.specs.Histories.{History}
use Rattle.case_text.specs.Replies.{audit_text, history_text, reply_text, served_text, session_text}
use Rattle.case_text.specs.Served.{Served}
use Rattle.case_text.specs.declared.reply.session.SessionSizes.{SessionSizes}
use Rattle.script_text.specs.declared.script.MarkedJob.{MarkedJob}
use Rattle.script_text.specs.declared.script.ScriptJob.{ScriptJob}
use Rattle.script_prove.specs.Served.{AreServed, IsServedHistory}
use Rattle.session_text.specs.Sessions.{SessionContent}
use Rattle.session_prove.specs.Sessions.{IsPaired, IsSession}
use Rattle.case_text.specs.Spelling.{lower_case_text}
use Rattle.case_text.specs.declared.case.form.Form.TheVariants.{Full}
use Rattle.case_text.specs.declared.reply.Reply.{Reply}
use Rattle.gkr_words.specs.declared.words.Command.{Command}
use Rattle.gkr_words.specs.declared.words.Command.TheVariants.{OfCase, Demo, Serve, ServeHistory, Session}
use Rattle.gkr_cmd.specs.declared.status.Status.{Status}
use Rattle.gkr_cmd.specs.declared.status.Status.TheVariants as statuses
use Rattle.gkr_cmd.specs.Replies.{IsOfCase, IsReply, IsVerifyAnswer, status_of}
use Rattle.gkr_cmd.specs.Reported.{audit_lines}
use Rattle.gkr_cmd.specs.Reached.{WritesPrefix}

-- What a command reads is known from the source. `demo`, and words that are no command, read nothing,
-- so any input is theirs.
abbrev pub IsInput : Option Command → Option (List ℕ) → List ℕ → Type 0
IsInput None left input = ⊤
IsInput (Some (OfCase command)) left input = left ≡ Some input
IsInput (Some (Demo number workers)) left input = ⊤
IsInput (Some (Serve workers provers clients)) left input = left ≡ Some input
IsInput (Some (ServeHistory workers provers clients)) left input = left ≡ Some input
IsInput (Some (Session piece workers)) left input = left ≡ Some input

-- A run that wrote its reply whole.
abbrev pub IsReplied : Status → Type 0
IsReplied statuses.ReadFault = ⊥
IsReplied statuses.WriteFault = ⊥
IsReplied statuses.Memory = ⊥
IsReplied status = ⊤

-- The run ended with the status of a reply to its words and input, and wrote that reply's text.
pub record EndsWithReply (words : List (List ℕ)) (input : List ℕ) (ended : Status)
    (before after : Option (List ℕ)) : Type 0 where
  pub reply : Reply
  pub is_reply : IsReply words input reply
  pub status : ended ≡ status_of reply
  pub written : Grows before after (reply_text reply)

-- The run wrote a prefix of the text of a reply to its words and input.
pub record WritesReplyPrefix (words : List (List ℕ)) (input : List ℕ)
    (before after : Option (List ℕ)) : Type 0 where
  pub reply : Reply
  pub is_reply : IsReply words input reply
  pub prefix : WritesPrefix before after (reply_text reply)

-- What a run wrote: nothing where it has no reply, and else a prefix of the reply to its words and
-- input.
abbrev pub WritesNoMore : Status → List (List ℕ) → List ℕ → Option (List ℕ) → Option (List ℕ)
    → Type 0
WritesNoMore statuses.ReadFault words input before after = Grows before after []
WritesNoMore statuses.Memory words input before after = Grows before after []
WritesNoMore status words input before after = WritesReplyPrefix words input before after

-- A case whose program is accepted and which has as many inputs.
pub record IsEvaluable (c : Content) : Type 0 where
  pub tree : ProgramTree
  pub accepted : IsAccepted c.lang c.program tree
  pub counted : length c.inputs ≡ input_count tree.inputs

-- A case whose program has a circuit with as many inputs.
pub record HasCircuit (c : Content) : Type 0 where
  pub parts : Parts
  pub compiled : IsCompiled c.lang c.program parts
  pub counted : length c.inputs ≡ parts.inputs

-- A case with as many inputs and outputs as its program's circuit, and with a proof by lines, in either version, of the circuit's
-- shape.
pub record HasLineProof (c : Content) : Type 0 where
  pub parts : Parts
  pub outputs : List F
  pub messages : Messages
  pub proof : HasProof Line c parts outputs messages

-- The run wrote the lines of the case's audit. It begins with the verifier's answer, and says whether the outputs are the program's
-- meaning on the inputs. For an accepted case whose outputs aren't, it names an exceptional challenge; for a case that was proved,
-- all is well and it names nothing.
pub record WritesAudit (c : Content) (before after : Option (List ℕ)) : Type 0 where
  pub audit : Audit
  pub is_audited : IsAudited c audit
  pub written : Grows before after (audit_text (audit_lines audit))
  pub verdict : IsVerdictOn c audit.verdict
  pub meaning : IsTrue audit.same ↔ HasMeaning c
  pub named : audit.verdict ≡ Accepted → ¬ HasMeaning c → IsSome audit.challenge
  pub unnamed : (version : ProofVersion) (plain : Content) → IsProved (ByLines version) plain c
      → audit ≡ names_nothing

-- The run wrote the text of this case with its program's meaning on its inputs as outputs and the
-- one honest proof of this kind of them, and that text is one of an accepted case.
pub record WritesHonestProof (kind : ProofKind) (c : Content) (before after : Option (List ℕ))
    : Type 0 where
  pub proved : Content
  pub is_proved : IsProved kind c proved
  pub written : Grows before after (lower_case_text proved)
  pub accepted : IsOfCase Full (lower_case_text proved) HasAcceptedProof

-- The run wrote the text of this case with the messages of its proof in a version, and that text is one of a case to which `verify`
-- replies what it replies to this case.
pub record WritesConverted (version : ProofVersion) (c : Content) (before after : Option (List ℕ))
    : Type 0 where
  pub converted : Content
  pub is_converted : IsConverted version c converted
  pub written : Grows before after (lower_case_text converted)
  pub same : IsOfCase Full (lower_case_text converted)
      (λ d. (reply : Reply) → IsVerifyAnswer c reply ↔ IsVerifyAnswer d reply)

-- A case with a proof by lines whose sum equations all hold, if it is to be written in version 2.
pub record IsConvertible (version : ProofVersion) (c : Content) : Type 0 where
  pub written : Content
  pub is_converted : IsConverted version c written

-- A case whose program has a circuit with as many inputs, with two words for each of the circuit's challenges.
pub record HasWords (s : SessionContent) : Type 0 where
  pub parts : Parts
  pub paired : IsPaired s.case s.words parts

-- The run wrote the sizes of the session on this case with these words, in which the verifier accepts the program's meaning.
pub record WritesSession (s : SessionContent) (before after : Option (List ℕ)) : Type 0 where
  pub sizes : SessionSizes
  pub is_session : IsSession s.case s.words sizes
  pub written : Grows before after (session_text sizes)

-- The run wrote the replies of `prove` to these jobs, in their order, and the line on all of them.
pub record WritesReplies (script : List ScriptJob) (before after : Option (List ℕ)) : Type 0 where
  pub served : List Served
  pub replies : AreServed script served
  pub written : Grows before after (served_text served)

-- The run wrote the replies to these jobs, in their order, the line on all of them, and a history
-- that their table had.
pub record WritesHistory (script : List MarkedJob) (before after : Option (List ℕ)) : Type 0 where
  pub history : History
  pub reported : IsServedHistory script history.jobs history.lines
  pub written : Grows before after (history_text history)

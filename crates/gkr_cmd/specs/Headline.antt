-- What holds of every run of the program: the headline, the one reply, and the causes of faults.
use Rattle.std.specs.Prelude.{◌≡◌, ◌≢◌, ◌<◌, ◌≤◌, ◌↔◌, ◌+◌, ℕ, List, [], length, Option, Some, None, Ok}
use Rattle.io_edge.specs.Calls.{Calls}
use Rattle.io_edge.specs.Causes.{Rose}
use Rattle.io_edge.specs.Written.{Grows}
use Rattle.case_prove.specs.Sound.{HasExceptionalChallenge, HasMeaning}
use Rattle.proof_two.specs.declared.kind.ProofKind.{ProofKind}
use Rattle.proof_two.specs.declared.kind.ProofVersion.{ProofVersion}
use Rattle.case_text.specs.Content.{Content}
use Rattle.case_text.specs.Reading.{reading}
use Rattle.case_text.specs.Replies.{verdict_text}
use Rattle.case_text.specs.declared.case.form.Form.TheVariants.{Plain, Full}
use Rattle.case_text.specs.declared.reply.verdict.VerdictLine.TheVariants.{Accepted}
use Rattle.gkr_cmd.specs.declared.status.Status.{Status}
use Rattle.gkr_cmd.specs.declared.status.Status.TheVariants as statuses
use Rattle.gkr_words.specs.declared.words.Command.{Command}
use Rattle.gkr_words.specs.declared.words.Command.TheVariants.{OfCase, Demo, Serve, ServeHistory, Session}
use Rattle.gkr_words.specs.declared.words.CaseCommand.TheVariants.{Eval, Circuit, Prove, Verify, Audit, Convert}
use Rattle.script_text.specs.declared.script.MarkedJob.{MarkedJob}
use Rattle.script_text.specs.declared.script.ScriptJob.{ScriptJob}
use Rattle.script_text.specs.Scripts.{history_script_reading, script_reading}
use Rattle.session_text.specs.Sessions.{SessionContent, session_reading}
use Rattle.gkr_words.specs.Commands.{ReadsCase, command_of, input_limit, read_buffer, script_limit}
use Rattle.gkr_cmd.specs.Reached.{IsReadUpTo, ReadsWithin}
use Rattle.gkr_cmd.specs.Replies.{IsOfCase, IsOfSession}
use Rattle.case_prove.specs.Verified.{HasAcceptedProof}
use Rattle.gkr_cmd.specs.Runs.{EndsWithReply, HasCircuit, HasLineProof, HasWords, IsConvertible, IsEvaluable, IsInput}
use Rattle.gkr_cmd.specs.Runs.{IsReplied, WritesAudit, WritesConverted, WritesHistory, WritesHonestProof}
use Rattle.gkr_cmd.specs.Runs.{WritesNoMore, WritesReplies, WritesSession}

-- What the source and the sink of a run make known at one moment: the bytes that are left, the calls that
-- read and the bytes that were written, where these are known, and how often each has failed.
pub record Ends : Type 0 where
  pub left : Option (List ℕ)
  pub calls : Option Calls
  pub read_faults : ℕ
  pub written : Option (List ℕ)
  pub write_faults : ℕ

-- One run: its words, the first of which is the program's own name, what was known of its ends before and
-- after it, and the status that it ended with.
pub record Run : Type 0 where
  pub words : List (List ℕ)
  pub before : Ends
  pub after : Ends
  pub ended : Status

-- The run's words name this command, and its source holds this input.
pub record Asks (run : Run) (command : Command) (input : List ℕ) : Type 0 where
  pub named : command_of run.words ≡ Some command
  pub known : run.before.left ≡ Some input

-- ---- the headline

pub record Headline (run : Run) : Type 0 where
  -- `verify` accepts exactly the cases whose proof, by lines in either version or by pairs, meets
  -- every equation of acceptance.
  pub accepted : (input : List ℕ) → Asks run (OfCase Verify) input → IsReplied run.ended
      → (run.ended ≡ statuses.Done) ↔ IsOfCase Full input HasAcceptedProof
  -- It then writes that they are accepted.
  pub accepted_text : (input : List ℕ) → Asks run (OfCase Verify) input → run.ended ≡ statuses.Done
      → Grows run.before.written run.after.written (verdict_text Accepted)
  -- What `prove` writes, with any number of workers, is the case with its program's meaning as
  -- outputs and the one honest proof of them, by lines in a version or by pairs as the words ask; and
  -- that text is accepted.
  pub honest : (input : List ℕ) (workers : ℕ) (kind : ProofKind) (content : Content)
      → Asks run (OfCase (Prove workers kind)) input → reading Plain input ≡ Ok content
      → run.ended ≡ statuses.Done
      → WritesHonestProof kind content run.before.written run.after.written
  -- Where an accepted case's outputs aren't its program's meaning on its inputs, some challenge is
  -- one of few exceptional ones, which earlier messages fix.
  pub sound : (input : List ℕ) (content : Content) → Asks run (OfCase Verify) input
      → reading Full input ≡ Ok content → run.ended ≡ statuses.Done → ¬ HasMeaning content
      → (n : ℕ) × HasExceptionalChallenge content n
  -- `audit` answers exactly the cases with a proof by lines, whatever the verdict on it is.
  pub audited : (input : List ℕ) → Asks run (OfCase Audit) input → IsReplied run.ended
      → (run.ended ≡ statuses.Done) ↔ IsOfCase Full input HasLineProof
  -- It then writes which message is the first that isn't the true one, and which challenge is the
  -- first exceptional one: for an accepted case whose outputs aren't its program's meaning on its
  -- inputs it always names a challenge, and for one that was proved it names nothing.
  pub audit_text : (input : List ℕ) (content : Content) → Asks run (OfCase Audit) input
      → reading Full input ≡ Ok content → run.ended ≡ statuses.Done
      → WritesAudit content run.before.written run.after.written
  -- `convert` answers exactly the cases with a proof by lines, and for version 2 those alone whose
  -- sum equations all hold.
  pub converted : (input : List ℕ) (version : ProofVersion)
      → Asks run (OfCase (Convert version)) input → IsReplied run.ended
      → (run.ended ≡ statuses.Done) ↔ IsOfCase Full input (IsConvertible version)
  -- It then writes the case with the messages of its proof in that version, of which `verify` says
  -- what it says of the case.
  pub converted_text : (input : List ℕ) (version : ProofVersion) (content : Content)
      → Asks run (OfCase (Convert version)) input → reading Full input ≡ Ok content
      → run.ended ≡ statuses.Done
      → WritesConverted version content run.before.written run.after.written
  -- `session`, with pieces of any size, answers exactly the cases whose program has a circuit with
  -- as many inputs, with two words for each challenge.
  pub in_session : (input : List ℕ) (piece workers : ℕ) → Asks run (Session piece workers) input
      → IsReplied run.ended → (run.ended ≡ statuses.Done) ↔ IsOfSession input HasWords
  -- It then writes how many bytes each end of the session was sent until both were at its end,
  -- where the verifier accepts: a function of the text alone.
  pub session_text : (input : List ℕ) (piece workers : ℕ) (content : SessionContent)
      → Asks run (Session piece workers) input → session_reading input ≡ Ok content
      → run.ended ≡ statuses.Done
      → WritesSession content run.before.written run.after.written
  -- A case whose program has a circuit with as many inputs is proved.
  pub proved : (input : List ℕ) (workers : ℕ) (kind : ProofKind)
      → Asks run (OfCase (Prove workers kind)) input
      → IsOfCase Plain input HasCircuit → IsReplied run.ended → run.ended ≡ statuses.Done
  -- Such a case is answered by `circuit` with the circuit's sizes.
  pub laid_out : (input : List ℕ) → Asks run (OfCase Circuit) input
      → IsOfCase Plain input HasCircuit → IsReplied run.ended → run.ended ≡ statuses.Done
  -- A case with an accepted program and as many inputs as the program needs is evaluated.
  pub done : (input : List ℕ) → Asks run (OfCase Eval) input
      → IsOfCase Plain input IsEvaluable → IsReplied run.ended → run.ended ≡ statuses.Done
  -- `demo` answers every number with what is reported of its case's proof.
  pub demonstrated : (number workers : ℕ) → command_of run.words ≡ Some (Demo number workers)
      → IsReplied run.ended → run.ended ≡ statuses.Done
  -- `serve` answers every script with the replies of `prove` to its jobs, in the script's order,
  -- with any number of workers, provers and clients.
  pub served : (input : List ℕ) (workers provers clients : ℕ) (script : List ScriptJob)
      → Asks run (Serve workers provers clients) input → script_reading input ≡ Ok script
      → length input ≤ script_limit → IsReplied run.ended
      → (run.ended ≡ statuses.Done) × WritesReplies script run.before.written run.after.written
  -- `serve --history` answers every script with the replies of `prove` to the jobs that its clients
  -- don't withdraw, in the script's order, and with a legal history of a table with them.
  pub history : (input : List ℕ) (workers provers clients : ℕ) (script : List MarkedJob)
      → Asks run (ServeHistory workers provers clients) input
      → history_script_reading input ≡ Ok script
      → length input ≤ script_limit → IsReplied run.ended
      → (run.ended ≡ statuses.Done) × WritesHistory script run.before.written run.after.written

-- ---- the one reply, which for `serve --history` is one that the schedule chose

pub record HasOneReply (run : Run) : Type 0 where
  -- The run ends with the status of the reply to the words and the input, and writes its text.
  pub answer : (input : List ℕ) → IsInput (command_of run.words) run.before.left input
      → IsReplied run.ended
      → EndsWithReply run.words input run.ended run.before.written run.after.written
  -- Whatever happens, no more than a prefix of that reply was written.
  pub prefix : (input : List ℕ) → IsInput (command_of run.words) run.before.left input
      → WritesNoMore run.ended run.words input run.before.written run.after.written
  -- The words are refused exactly where they are no command.
  pub usage : IsReplied run.ended
      → (run.ended ≡ statuses.Usage) ↔ (command_of run.words ≡ None)
  -- Where nothing failed and memory was found, the run replied.
  pub complete : ¬ Rose run.before.read_faults run.after.read_faults
      → ¬ Rose run.before.write_faults run.after.write_faults
      → run.ended ≢ statuses.Memory → IsReplied run.ended

-- ---- the causes of faults

pub record HasCauses (run : Run) : Type 0 where
  -- Where a command on a case or a script is named, its input was read to the end or one byte past
  -- the limit.
  pub read : ReadsCase (command_of run.words)
      → run.ended ≢ statuses.ReadFault → run.ended ≢ statuses.Memory
      → IsReadUpTo (input_limit (command_of run.words) + 1) run.before.left run.after.left
  -- However it ends, at most one byte more than the limit is read, in as many reads at most, none
  -- into a buffer of more than 4,096 bytes.
  pub read_within : ReadsCase (command_of run.words)
      → ReadsWithin (input_limit (command_of run.words) + 1) read_buffer run.before.left
      run.after.left
      run.before.calls run.after.calls
  -- A failure of the source, only where it failed and always there; then nothing is written.
  pub read_fault : run.ended ≡ statuses.ReadFault
      → Rose run.before.read_faults run.after.read_faults
  pub read_failed : run.before.read_faults < run.after.read_faults
      → run.ended ≡ statuses.ReadFault
  pub read_fault_unwritten : run.ended ≡ statuses.ReadFault
      → Grows run.before.written run.after.written []
  -- A failure of the sink, only where it failed and always there.
  pub write_fault : run.ended ≡ statuses.WriteFault
      → Rose run.before.write_faults run.after.write_faults
  pub write_failed : run.before.write_faults < run.after.write_faults
      → run.ended ≡ statuses.WriteFault
  -- Memory runs out before the first byte is written.
  pub memory_unwritten : run.ended ≡ statuses.Memory
      → Grows run.before.written run.after.written []

-- ---- all of them

pub record KeepsPromises (run : Run) : Type 0 where
  pub headline : Headline run
  pub reply : HasOneReply run
  pub causes : HasCauses run

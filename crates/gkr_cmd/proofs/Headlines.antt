-- The promises of a run, by the reply that it made and wrote.
use Rattle.std.proofs.Common.{◌≡◌, ◌≢◌, ◌<◌, ◌↔◌, ◌∙◌, ℕ, List, Option, None, Result, Ok, Err, refl, sym, subst, arith}
use Rattle.std.specs.Prelude.{IfOk, OnOk, IsErrOf}
use Rattle.io_edge.specs.Causes.{Rose}
use Rattle.case_prove.specs.Verified.{HasAcceptedProof}
use Rattle.case_text.specs.Replies.{reply_text}
use Rattle.case_text.specs.declared.case.form.Form.TheVariants.{Full, Plain}
use Rattle.case_text.specs.declared.reply.Reply.{Reply}
use Rattle.io_edge.specs.Written.{Grows}
use Rattle.std.specs.Prelude.{◌+◌}
use Rattle.gkr_cmd.specs.declared.reply_error.ReplyError.{ReplyError}
use Rattle.gkr_cmd.specs.declared.reply_error.ReplyError.TheVariants as errors
use Rattle.gkr_cmd.specs.declared.status.Status.{Status}
use Rattle.gkr_cmd.specs.declared.status.Status.TheVariants as statuses
use Rattle.gkr_words.specs.declared.words.Command.{Command}
use Rattle.gkr_words.specs.declared.words.CaseCommand.TheVariants.{Eval, Circuit, Prove, Verify, Audit, Convert}
use Rattle.gkr_words.specs.Commands.{ReadsCase, command_of, input_limit, read_buffer}
use Rattle.gkr_cmd.specs.Headline.{HasCauses, HasOneReply, Headline, KeepsPromises, Run}
use Rattle.gkr_cmd.specs.Reached.{IsReadUpTo, ReadsWithin}
use Rattle.gkr_cmd.specs.Replies.{IsCommandReply, IsReply, status_of}
use Rattle.gkr_cmd.specs.Runs.{HasCircuit, HasLineProof, IsConvertible, IsEvaluable, IsInput, IsReplied, WritesReplyPrefix}
use Rattle.gkr_cmd.specs.Finished.{Finishes, WritesSome}
use Rattle.gkr_cmd.specs.RunLaws.{RunLaws}
use Rattle.gkr_cmd.proofs.AcceptedCases.{accepted_of, sound_of}
use Rattle.gkr_cmd.proofs.AuditAnswers.{audited_of, line_proof_of, writes_audit}
use Rattle.gkr_cmd.proofs.ConvertAnswers.{converted_of, convertible_of, writes_converted}
use Rattle.gkr_cmd.proofs.ProvedCases.{accepted_text, proved_of}
use Rattle.gkr_cmd.proofs.Replied.{demo_done_of, done_of, history_reply_of, input_of, no_more, script_reply_of, whole_front}
use Rattle.gkr_cmd.proofs.HistoryReplies.{tells}
use Rattle.gkr_cmd.proofs.ScriptReplies.{serves}
use Rattle.gkr_cmd.proofs.SessionAnswers.{session_told, words_of, writes_session}
use Rattle.gkr_cmd.proofs.SessionReplies.{session_reply_of}

-- the reply that the run made
record Made (run : Run) (reply : Reply) : Type 0 where
  pub is_reply : (input : List ℕ) → IsInput (command_of run.words) run.before.left input → IsReply run.words input reply
  pub usage : (status_of reply ≡ statuses.Usage) ↔ (command_of run.words ≡ None)

-- it is written whole
record Wrote (run : Run) (reply : Reply) : Type 0 where
  pub made : Made run reply
  pub status : run.ended ≡ status_of reply
  pub written : Grows run.before.written run.after.written (reply_text reply)

record WroteSome (run : Run) : Type 0 where
  pub reply : Reply
  pub wrote : Wrote run reply

-- what a run made, and what it read for that
pub record Makes (run : Run) (command : Option Command) (made : Result Reply ReplyError) : Type 0 where
  pub is_reply : IfOk made (λ reply. (input : List ℕ) → IsInput command run.before.left input → IsCommandReply command input reply)
  pub usage : IfOk made (λ reply. (status_of reply ≡ statuses.Usage) ↔ (command ≡ None))
  pub read : ReadsCase command → OnOk made (IsReadUpTo (input_limit command + 1) run.before.left run.after.left)
  pub within : ReadsCase command → ReadsWithin (input_limit command + 1) read_buffer run.before.left run.after.left run.before.calls run.after.calls
  pub fault : IsErrOf made errors.ReadFault → Rose run.before.read_faults run.after.read_faults
  pub no_fault : made ≢ Err errors.ReadFault → run.after.read_faults ≡ run.before.read_faults

-- the same for the command that its words name
abbrev pub MakesOwn : Run → Result Reply ReplyError → Type 0
MakesOwn run made = Makes run (command_of run.words) made

abbrev pub EndsMade : Run → Result Reply ReplyError → Type 0
EndsMade run made = Finishes made run.ended run.before.written run.after.written run.before.write_faults run.after.write_faults

made_of : (run : Run) (made : Result Reply ReplyError) (reply : Reply) → MakesOwn run made → made ≡ Ok reply → Made run reply
made_of run (Ok found) reply makes is = let same : found ≡ reply = cc in subst (λ r. Made run r) same (record { is_reply = makes.is_reply; usage = makes.usage })
made_of run (Err e) reply makes is = absurd cc

wrote_of : (run : Run) (made : Result Reply ReplyError) → MakesOwn run made → EndsMade run made → IsReplied run.ended → WroteSome run
wrote_of run made makes ends replies =
    let whole = ends.whole replies in
    record { reply = whole.reply; wrote = record { made = made_of run made whole.reply makes whole.made_is; status = whole.status; written = whole.written } }

done_replies : (ended : Status) → ended ≡ statuses.Done → IsReplied ended
done_replies ended is = subst IsReplied (sym is) tt

-- where a run neither failed nor lacked memory, it made a reply
reply_made : (made : Result Reply ReplyError) (ended : Status) → (IsReplied ended → (reply : Reply) × (made ≡ Ok reply)) → (ended ≡ statuses.WriteFault → (reply : Reply) × (made ≡ Ok reply))
    → ended ≢ statuses.ReadFault → ended ≢ statuses.Memory → (reply : Reply) × (made ≡ Ok reply)
reply_made made statuses.Done whole cut fault memory = whole tt
reply_made made statuses.Rejected whole cut fault memory = whole tt
reply_made made statuses.Usage whole cut fault memory = whole tt
reply_made made statuses.BadCase whole cut fault memory = whole tt
reply_made made statuses.BadProgram whole cut fault memory = whole tt
reply_made made statuses.BadCount whole cut fault memory = whole tt
reply_made made statuses.BadProof whole cut fault memory = whole tt
reply_made made statuses.ReadFault whole cut fault memory = absurd (fault refl)
reply_made made statuses.WriteFault whole cut fault memory = cut refl
reply_made made statuses.Memory whole cut fault memory = absurd (memory refl)
reply_made made statuses.TooLong whole cut fault memory = whole tt

all_but : (run : Run) (made : Result Reply ReplyError) → EndsMade run made → run.ended ≢ statuses.ReadFault → run.ended ≢ statuses.Memory → (reply : Reply) × (made ≡ Ok reply)
all_but run made ends fault memory =
    reply_made made run.ended (λ replies. let w = ends.whole replies in (w.reply, w.made_is)) (λ is. let w = ends.cut is in (w.reply, w.made_is)) fault memory

all_replied : (ended : Status) → (ended ≡ statuses.ReadFault → ⊥) → (ended ≡ statuses.WriteFault → ⊥) → ended ≢ statuses.Memory → IsReplied ended
all_replied statuses.Done read write memory = tt
all_replied statuses.Rejected read write memory = tt
all_replied statuses.Usage read write memory = tt
all_replied statuses.BadCase read write memory = tt
all_replied statuses.BadProgram read write memory = tt
all_replied statuses.BadCount read write memory = tt
all_replied statuses.BadProof read write memory = tt
all_replied statuses.ReadFault read write memory = absurd (read refl)
all_replied statuses.WriteFault read write memory = absurd (write refl)
all_replied statuses.Memory read write memory = absurd (memory refl)
all_replied statuses.TooLong read write memory = tt

read_of : (run : Run) (made : Result Reply ReplyError) → MakesOwn run made → ReadsCase (command_of run.words) → (reply : Reply) × (made ≡ Ok reply)
    → IsReadUpTo (input_limit (command_of run.words) + 1) run.before.left run.after.left
read_of run (Ok found) makes named some = makes.read named
read_of run (Err e) makes named some = absurd (let is = some.1 in cc)

-- where the count of the source's faults rose, the source failed
fault_of : (run : Run) (made : Result Reply ReplyError) → MakesOwn run made → run.before.read_faults < run.after.read_faults → made ≡ Err errors.ReadFault
fault_of run (Ok reply) makes rose = absurd (omega (arith, makes.no_fault (λ e. cc)))
fault_of run (Err errors.Memory) makes rose = absurd (omega (arith, makes.no_fault (λ e. cc)))
fault_of run (Err errors.ReadFault) makes rose = refl

headline_of : RunLaws → (run : Run) → (IsReplied run.ended → WroteSome run) → Headline run
headline_of laws run whole =
    let command = command_of run.words in
    let left = run.before.left in
    record {
      accepted = λ input asks replies.
          let w = (whole replies).wrote in (
            λ done. (accepted_of command input (whole replies).reply asks.named (w.made.is_reply input (input_of Verify command left input asks.named asks.known)) (sym w.status ∙ done)).1,
            λ case. w.status ∙ done_of Full Verify HasAcceptedProof laws.accepted command input (whole replies).reply asks.named (w.made.is_reply input (input_of Verify command left input asks.named asks.known)) case,
          );
      accepted_text = λ input asks done.
          let some = whole (done_replies run.ended done) in
          let w = some.wrote in
          subst (λ r. Grows run.before.written run.after.written (reply_text r))
          (accepted_of command input some.reply asks.named (w.made.is_reply input (input_of Verify command left input asks.named asks.known)) (sym w.status ∙ done)).0 w.written;
      honest = λ input workers kind content asks read done.
          let some = whole (done_replies run.ended done) in
          let w = some.wrote in
          let case = proved_of workers kind command input content some.reply asks.named (w.made.is_reply input (input_of (Prove workers kind) command left input asks.named asks.known)) (sym w.status ∙ done) read in
          record {
            proved = case.proved;
            is_proved = case.is_proved;
            written = subst (λ r. Grows run.before.written run.after.written (reply_text r)) case.reply_is w.written;
            accepted = accepted_text kind (laws.proved_accepted kind) (laws.proved_full kind) (laws.proved_short kind) laws.exactly input content case.proved read case.is_proved;
          };
      sound = λ input content asks read done wrong.
          let some = whole (done_replies run.ended done) in
          let w = some.wrote in
          sound_of laws.sound input content (accepted_of command input some.reply asks.named (w.made.is_reply input (input_of Verify command left input asks.named asks.known)) (sym w.status ∙ done)).1 read wrong;
      audited = λ input asks replies.
          let w = (whole replies).wrote in (
            λ done. line_proof_of input (whole replies).reply (audited_of command input (whole replies).reply asks.named (w.made.is_reply input (input_of Audit command left input asks.named asks.known)) (sym w.status ∙ done)),
            λ case. w.status ∙ done_of Full Audit HasLineProof laws.audited command input (whole replies).reply asks.named (w.made.is_reply input (input_of Audit command left input asks.named asks.known)) case,
          );
      audit_text = λ input content asks read done.
          let some = whole (done_replies run.ended done) in
          let w = some.wrote in
          writes_audit laws input content some.reply run.before.written run.after.written
          (audited_of command input some.reply asks.named (w.made.is_reply input (input_of Audit command left input asks.named asks.known)) (sym w.status ∙ done)) read w.written;
      converted = λ input version asks replies.
          let w = (whole replies).wrote in (
            λ done. convertible_of version input (whole replies).reply (converted_of version command input (whole replies).reply asks.named (w.made.is_reply input (input_of (Convert version) command left input asks.named asks.known)) (sym w.status ∙ done)),
            λ case. w.status ∙ done_of Full (Convert version) (IsConvertible version) (laws.convertible version) command input (whole replies).reply asks.named (w.made.is_reply input (input_of (Convert version) command left input asks.named asks.known)) case,
          );
      converted_text = λ input version content asks read done.
          let some = whole (done_replies run.ended done) in
          let w = some.wrote in
          writes_converted laws version input content some.reply run.before.written run.after.written
          (converted_of version command input some.reply asks.named (w.made.is_reply input (input_of (Convert version) command left input asks.named asks.known)) (sym w.status ∙ done)) read w.written;
      in_session = λ input piece workers asks replies.
          let w = (whole replies).wrote in
          let is = session_reply_of piece workers command left (whole replies).reply asks.named (w.made.is_reply) input asks.known in (
            λ done. words_of input (whole replies).reply (session_told input (whole replies).reply is (sym w.status ∙ done)),
            λ has. w.status ∙ laws.in_session input (whole replies).reply is has,
          );
      session_text = λ input piece workers content asks read done.
          let some = whole (done_replies run.ended done) in
          let w = some.wrote in
          let is = session_reply_of piece workers command left some.reply asks.named (w.made.is_reply) input asks.known in
          writes_session input content some.reply run.before.written run.after.written (session_told input some.reply is (sym w.status ∙ done)) read w.written;
      proved = λ input workers kind asks case replies.
          let w = (whole replies).wrote in
          w.status ∙ done_of Plain (Prove workers kind) HasCircuit (laws.provable kind) command input (whole replies).reply asks.named (w.made.is_reply input (input_of (Prove workers kind) command left input asks.named asks.known)) case;
      laid_out = λ input asks case replies.
          let w = (whole replies).wrote in
          w.status ∙ done_of Plain Circuit HasCircuit laws.laid_out command input (whole replies).reply asks.named (w.made.is_reply input (input_of Circuit command left input asks.named asks.known)) case;
      done = λ input asks case replies.
          let w = (whole replies).wrote in
          w.status ∙ done_of Plain Eval IsEvaluable laws.evaluable command input (whole replies).reply asks.named (w.made.is_reply input (input_of Eval command left input asks.named asks.known)) case;
      demonstrated = λ number workers named replies.
          let w = (whole replies).wrote in
          w.status ∙ demo_done_of number workers (laws.demo number) command left (whole replies).reply named w.made.is_reply;
      served = λ input workers provers clients script asks read within replies.
          let w = (whole replies).wrote in
          let is = script_reply_of workers provers clients command left (whole replies).reply asks.named (w.made.is_reply) input asks.known in
          let case = serves input (whole replies).reply is script read within in (
            w.status ∙ case.done,
            record {
              served = case.jobs;
              replies = case.replies_are;
              written = subst (λ r. Grows run.before.written run.after.written (reply_text r)) case.reply_is w.written;
            },
          );
      history = λ input workers provers clients script asks read within replies.
          let w = (whole replies).wrote in
          let is = history_reply_of workers provers clients command left (whole replies).reply asks.named (w.made.is_reply) input asks.known in
          let case = tells input (whole replies).reply is script read within in (
            w.status ∙ case.done,
            record {
              history = case.history;
              reported = case.reported;
              written = subst (λ r. Grows run.before.written run.after.written (reply_text r)) case.reply_is w.written;
            },
          );
    }

-- a prefix of the reply is written
cut_front : (run : Run) (made : Result Reply ReplyError) → MakesOwn run made → (input : List ℕ) → IsInput (command_of run.words) run.before.left input → WritesSome made run.before.written run.after.written
    → WritesReplyPrefix run.words input run.before.written run.after.written
cut_front run made makes input is some = record { reply = some.reply; is_reply = (made_of run made some.reply makes some.made_is).is_reply input is; prefix = some.prefix }

whole_front_of : (run : Run) (input : List ℕ) → IsInput (command_of run.words) run.before.left input → WroteSome run → WritesReplyPrefix run.words input run.before.written run.after.written
whole_front_of run input is some = record {
  reply = some.reply;
  is_reply = some.wrote.made.is_reply input is;
  prefix = whole_front run.before.written run.after.written (reply_text some.reply) some.wrote.written;
}

reply_of : (run : Run) (made : Result Reply ReplyError) → MakesOwn run made → EndsMade run made → (IsReplied run.ended → WroteSome run) → HasOneReply run
reply_of run made makes ends whole = record {
  answer = λ input is replies.
      let some = whole replies in
      record { reply = some.reply; is_reply = some.wrote.made.is_reply input is; status = some.wrote.status; written = some.wrote.written };
  prefix = λ input is.
      no_more run.ended run.words input run.before.written run.after.written ends.read_fault_unwritten ends.memory_unwritten
      (λ cut. cut_front run made makes input is (ends.cut cut)) (λ replies. whole_front_of run input is (whole replies));
  usage = λ replies.
      let w = (whole replies).wrote in
      (λ is. w.made.usage.0 (sym w.status ∙ is), λ none. w.status ∙ w.made.usage.1 none);
  complete = λ read write memory.
      all_replied run.ended (λ is. read (makes.fault (ends.read_fault is))) (λ is. write (ends.write_fault is)) memory;
}

causes_of : (run : Run) (made : Result Reply ReplyError) → MakesOwn run made → EndsMade run made → HasCauses run
causes_of run made makes ends = record {
  read = λ named fault memory. read_of run made makes named (all_but run made ends fault memory);
  read_within = makes.within;
  read_fault = λ is. makes.fault (ends.read_fault is);
  read_failed = λ rose. ends.read_failed (fault_of run made makes rose);
  read_fault_unwritten = ends.read_fault_unwritten;
  write_fault = ends.write_fault;
  write_failed = ends.write_failed;
  memory_unwritten = ends.memory_unwritten;
}

promises : RunLaws → (run : Run) (made : Result Reply ReplyError) → MakesOwn run made → EndsMade run made → KeepsPromises run
promises laws run made makes ends =
    let whole = wrote_of run made makes ends in
    record { headline = headline_of laws run whole; reply = reply_of run made makes ends whole; causes = causes_of run made makes ends }

-- the same, where the command is known to be the one that the words name
pub promises_of : RunLaws → (run : Run) (command : Option Command) (made : Result Reply ReplyError) → command ≡ command_of run.words → Makes run command made → EndsMade run made → KeepsPromises run
promises_of laws run command made is makes ends = promises laws run made (subst (λ (c : Option Command). Makes run c made) is makes) ends

-- How a run ends with what it made. No public contract cites this; the promises of a run follow from it.
use Rattle.std.specs.Prelude.{◌≡◌, ◌<◌, ℕ, List, [], Option, Result, Ok, Err}
use Rattle.io_edge.specs.Causes.{Rose}
use Rattle.io_edge.specs.Written.{Grows}
use Rattle.case_text.specs.Replies.{reply_text}
use Rattle.case_text.specs.declared.reply.Reply.{Reply}
use Rattle.gkr_cmd.specs.declared.reply_error.ReplyError.{ReplyError}
use Rattle.gkr_cmd.specs.declared.reply_error.ReplyError.TheVariants as errors
use Rattle.gkr_cmd.specs.declared.status.Status.{Status}
use Rattle.gkr_cmd.specs.declared.status.Status.TheVariants as statuses
use Rattle.gkr_cmd.specs.Reached.{WritesPrefix}
use Rattle.gkr_cmd.specs.Replies.{status_of}
use Rattle.gkr_cmd.specs.Runs.{IsReplied}

-- the reply that was made is written whole, and the run has its status
pub record WritesWhole (made : Result Reply ReplyError) (ended : Status)
    (before after : Option (List ℕ)) : Type 0 where
  pub reply : Reply
  pub made_is : made ≡ Ok reply
  pub status : ended ≡ status_of reply
  pub written : Grows before after (reply_text reply)

-- a prefix of the reply that was made is written
pub record WritesSome (made : Result Reply ReplyError) (before after : Option (List ℕ))
    : Type 0 where
  pub reply : Reply
  pub made_is : made ≡ Ok reply
  pub prefix : WritesPrefix before after (reply_text reply)

pub record Finishes (made : Result Reply ReplyError) (ended : Status)
    (before after : Option (List ℕ)) (faults_before faults_after : ℕ) : Type 0 where
  pub whole : IsReplied ended → WritesWhole made ended before after
  pub cut : ended ≡ statuses.WriteFault → WritesSome made before after
  pub write_fault : ended ≡ statuses.WriteFault → Rose faults_before faults_after
  pub write_failed : faults_before < faults_after → ended ≡ statuses.WriteFault
  pub read_fault : ended ≡ statuses.ReadFault → made ≡ Err errors.ReadFault
  pub read_failed : made ≡ Err errors.ReadFault → ended ≡ statuses.ReadFault
  pub read_fault_unwritten : ended ≡ statuses.ReadFault → Grows before after []
  pub memory_unwritten : ended ≡ statuses.Memory → Grows before after []

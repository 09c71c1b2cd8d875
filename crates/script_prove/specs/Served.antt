-- The replies to a script, and the history of its table.
use Rattle.std.specs.Prelude.{◌≡◌, ℕ, Bool, List, map, length, Some, slice_get, get_or}
use Rattle.case_text.specs.Served.{Served, withdrawn_job}
use Rattle.case_text.specs.declared.reply.history.HistoryLine.{HistoryLine}
use Rattle.case_text.specs.declared.reply.history.HistoryLine.TheVariants as lines
use Rattle.job_core.specs.declared.entry.Entry.{Entry}
use Rattle.job_core.specs.declared.entry.Entry.TheVariants as entries
use Rattle.prove_serve.specs.History.{IsHistoryOf}
use Rattle.prove_serve.specs.declared.outcome.HistoryOutcome.{HistoryOutcome}
use Rattle.prove_serve.specs.declared.outcome.HistoryOutcome.TheVariants as ends
use Rattle.script_text.specs.Scripts.{job_of}
use Rattle.script_text.specs.declared.script.MarkedJob.{MarkedJob}
use Rattle.script_text.specs.declared.script.ScriptJob.{ScriptJob}
use Rattle.case_prove.specs.Answers.{IsAnswered}
use Rattle.job_table.specs.declared.event.Outcome.{Outcome}
use Rattle.job_table.specs.declared.event.Outcome.TheVariants.{Answer}
use Rattle.script_prove.specs.declared.prover.JobReply.{JobReply}

-- the reply is that of `prove` to the job's case, for the job's client
pub record IsServed (job : ScriptJob) (served : Served) : Type 0 where
  pub client : served.client ≡ job.client
  pub answered : IsAnswered job.case served.proved served.text

-- a reply for each job, in the script's order
pub record AreServed (script : List ScriptJob) (served : List Served) : Type 0 where
  pub as_many : length served ≡ length script
  pub each : (k : ℕ) (job : ScriptJob) (reply : Served) → slice_get script k ≡ Some job
      → slice_get served k ≡ Some reply → IsServed job reply

abbrev pub numbered_job : ScriptJob → ℕ × ScriptJob
numbered_job job = (job.client, job)

abbrev pub answer_of : Served → Outcome JobReply
answer_of served = Answer (record { job = served })

-- a job as the service takes it
abbrev pub marked_job : MarkedJob → ℕ × ScriptJob × Bool
marked_job job = (job.client, job_of job, job.withdraw)

-- what is reported of an outcome: the reply to the job, or that its client withdrew it
abbrev pub IsReportedTo : ℕ → HistoryOutcome JobReply → Served → Type 0
IsReportedTo client (ends.Answer reply) served = served ≡ reply.job
IsReportedTo client ends.Memory served = ⊥
IsReportedTo client ends.Withdrawn served = served ≡ withdrawn_job client

pub record AreReportedTo (clients : List ℕ) (outcomes : List (HistoryOutcome JobReply))
    (served : List Served) : Type 0 where
  pub as_many : length served ≡ length outcomes
  pub each : (k client : ℕ) (o : HistoryOutcome JobReply) (reply : Served)
      → slice_get clients k ≡ Some client → slice_get outcomes k ≡ Some o
      → slice_get served k ≡ Some reply → IsReportedTo client o reply

-- an entry of the history, with the job's place in the script where it is submitted
abbrev pub line_of : List ℕ → Entry → HistoryLine
line_of places (entries.Submit n) = lines.Submit n (get_or places n 0)
line_of places (entries.Take n) = lines.Take n
line_of places (entries.Finish n) = lines.Finish n
line_of places (entries.Withdraw n) = lines.Withdraw n

-- These are the replies to the jobs of a script, and the lines of a legal history of a table with
-- these jobs: a job is reported as withdrawn exactly where the history withdraws it, and else by its
-- reply.
pub record IsServedHistory (script : List MarkedJob) (served : List Served)
    (printed : List HistoryLine) : Type 0 where
  pub outcomes : List (HistoryOutcome JobReply)
  pub entries : List Entry
  pub places : List ℕ
  pub history : IsHistoryOf (λ reply job. IsServed job reply.job) (map marked_job script) outcomes
      entries places
  pub replies : AreReportedTo (map (λ (job : MarkedJob). job.client) script) outcomes served
  pub lines : printed ≡ map (line_of places) entries

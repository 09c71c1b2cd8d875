-- A script: cases of clients, one after another.
use Rattle.std.specs.Prelude.{◌≡◌, ℕ, ◌<◌, ◌≤◌, List, [], ◌∷◌, ◌++◌, length, codes, is_some, Bool, true, false, Result, Ok, Err}
use Rattle.std.specs.List.{concat}
use Rattle.case_text.specs.declared.case.form.Form.TheVariants.{Plain}
use Rattle.text_parts.specs.declared.due.DueKind.TheVariants.{Section, Length}
use Rattle.text_parts.specs.declared.stop.Stop.{Stop}
use Rattle.text_parts.specs.declared.rule.Rule.{Rule}
use Rattle.text_parts.specs.Bytes.{digit_zero, initial, newline}
use Rattle.text_parts.specs.Parts.{Taking, ◌>>=◌, at_end, decimal_at, except_at, given_at, in_order, listed_at, optional_at, word_at}
use Rattle.text_parts.specs.Listed.{AreListed}
use Rattle.case_text.specs.declared.case.refusal.BadCase.{BadCase}
use Rattle.std.specs.Global.{Vec}
use Rattle.case_text.specs.declared.case.refusal.CaseRefused.{CaseRefused}
use Rattle.script_text.specs.declared.script.ScriptJob.{ScriptJob}
use Rattle.script_text.specs.declared.script.MarkedJob.{MarkedJob}
use Rattle.case_text.specs.Spelling.{Spells, number}
use Rattle.case_text.specs.Reading.{case_at, refused}

abbrev pub client_number : Rule
client_number = record { limit = 65; over = Length; after_zero = newline; after_other = newline }

-- the number of a client: a decimal that isn't 0
abbrev pub client_at : List ℕ → Taking ℕ
client_at = except_at digit_zero Length (decimal_at client_number)

-- the text of a job: its client's line, and its case
abbrev pub IsJob : ScriptJob → List ℕ → Type 0
IsJob job text = (0 < job.client) × (job.client < 65) × (case : List ℕ) × Spells Plain case job.case
    × (text ≡ concat (codes "client " ∷ number job.client newline ∷ case ∷ []))

-- the line after a job that its client withdraws
abbrev pub mark : List ℕ
mark = codes "withdraw" ++ newline ∷ []

abbrev pub mark_text : Bool → List ℕ
mark_text true = mark
mark_text false = []

-- a job without its mark, and with one
abbrev pub job_of : MarkedJob → ScriptJob
job_of job = record { client = job.client; case = job.case }

abbrev pub marked : ScriptJob → Bool → MarkedJob
marked job withdraw = record { client = job.client; case = job.case; withdraw = withdraw }

-- the text of a job that may be marked
abbrev pub IsMarkedJob : MarkedJob → List ℕ → Type 0
IsMarkedJob job text =
    (s : List ℕ) × IsJob (job_of job) s × (text ≡ s ++ mark_text job.withdraw)

abbrev pub done : List ℕ
done = codes "done" ++ newline ∷ []

-- jobs with such texts, and then the last line
abbrev pub AreJobs : {J : Type 0} → (J → List ℕ → Type 0) → List J → List ℕ → Type 0
AreJobs IsText = AreListed IsText done

-- These bytes are a text of the script.
pub record SpellsScript (bytes : List ℕ) (jobs : List ScriptJob) : Type 0 where
  pub count : length jobs ≤ 256
  pub text : AreJobs IsJob jobs bytes

-- The same, where the line `withdraw` may come after each job.
pub record SpellsHistoryScript (bytes : List ℕ) (jobs : List MarkedJob) : Type 0 where
  pub count : length jobs ≤ 256
  pub text : AreJobs IsMarkedJob jobs bytes

unfoldable pub job_at : List ℕ → Taking ScriptJob
job_at bytes = do
  name ← word_at Section (codes "client ") bytes
  client ← client_at name.1
  case ← case_at Plain client.1
  Ok (record { client = client.0; case = case.0 }, case.1)

-- whether there is a mark here
unfoldable pub mark_at : List ℕ → Taking Bool
mark_at = in_order (optional_at (initial mark) (word_at Section mark))
    (λ found. given_at (is_some found))

unfoldable pub marked_job_at : List ℕ → Taking MarkedJob
marked_job_at bytes = do
  job ← job_at bytes
  withdraw ← mark_at job.1
  Ok (marked job.0 withdraw.0, withdraw.1)

-- the byte that a job begins with
abbrev pub job_initial : ℕ
job_initial = initial (codes "client ")

-- at most this many jobs, and then the last line
abbrev pub jobs_at : {J : Type 0} → (List ℕ → Taking J) → ℕ → List ℕ → Taking (List J)
jobs_at item most = listed_at job_initial item (word_at Section done) most

-- the jobs that all of the bytes spell
abbrev pub script_in : {J : Type 0} → (List ℕ → Taking J) → List ℕ → Result (List J) Stop
script_in item bytes = at_end (jobs_at item 256 bytes)

-- The jobs of the script that bytes spell, or the refusal.
abbrev pub script_reading : List ℕ → Result (List ScriptJob) BadCase
script_reading bytes = refused (length bytes) (script_in job_at bytes)

abbrev pub history_script_reading : List ℕ → Result (List MarkedJob) BadCase
history_script_reading bytes = refused (length bytes) (script_in marked_job_at bytes)

-- the jobs of an answer, as a list
abbrev pub jobs_of : {J : Type 0} → Result (Vec J) CaseRefused → Result (List J) CaseRefused
jobs_of (Ok jobs) = Ok jobs.items
jobs_of (Err e) = Err e

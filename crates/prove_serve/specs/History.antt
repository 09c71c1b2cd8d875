-- The legal histories of a table with the jobs of a script.
use Rattle.std.specs.Prelude.{◌≡◌, ◌⊎◌, ◌↔◌, ◌<◌, ◌+◌, ◌*◌, ⊤, ℕ, Bool, true, List, [], length, Some, slice_get}
use Rattle.tallies.specs.Tallies.{HasEachOnce}
use Rattle.job_core.specs.JobMachine.{are_steps, replay, withdrawals}
use Rattle.job_core.specs.declared.entry.Entry.{Entry}
use Rattle.job_core.specs.declared.entry.Entry.TheVariants as entry
use Rattle.job_core.specs.declared.entry.JobState.{JobState}
use Rattle.job_core.specs.declared.entry.JobState.TheVariants as state
use Rattle.prove_serve.specs.declared.outcome.HistoryOutcome.{HistoryOutcome}
use Rattle.prove_serve.specs.declared.outcome.HistoryOutcome.TheVariants.{Answer, Memory, Withdrawn}

module _ {C A : Type 0} (fits : A → C → Type 0) where
  -- an answer fits the case
  abbrev pub AnswerFits : HistoryOutcome A → C → Type 0
  AnswerFits (Answer a) c = fits a c
  AnswerFits Memory c = ⊤
  AnswerFits Withdrawn c = ⊤

  -- The outcome of the job of this number: withdrawn exactly where the history withdraws it, which
  -- it does to marked jobs alone, and else an answer that fits the case, or out of memory.
  pub record EndsSo (history : List Entry) (n : ℕ) (job : ℕ × C × Bool) (o : HistoryOutcome A)
      : Type 0 where
    pub withdrawn : (o ≡ Withdrawn) ↔ ((p : ℕ) × (slice_get history p ≡ Some (entry.Withdraw n)))
    pub marked : o ≡ Withdrawn → job.2 ≡ true
    pub suits : AnswerFits o job.1

  -- A legal history of a table with the jobs of a script. A job is a client, a case, and
  -- whether it is marked; `places` has the place in the script of each number of the history.
  pub record IsHistoryOf (jobs : List (ℕ × C × Bool)) (outcomes : List (HistoryOutcome A))
      (history : List Entry) (places : List ℕ) : Type 0 where
    -- The entries are steps of the machine of jobs, and in the end each job is done or withdrawn.
    pub steps : (capacity : ℕ) × (are_steps capacity [] history ≡ true)
    pub ended : (n : ℕ) (now : JobState) → slice_get (replay [] history) n ≡ Some now
        → (now ≡ state.Done) ⊎ (now ≡ state.Withdrawn)
    -- Each place of the script is that of one number.
    pub numbers : length places ≡ length (replay [] history)
    pub once : HasEachOnce (length jobs) places
    -- The places of one client rise.
    pub rising : (m n k l : ℕ) (a b : ℕ × C × Bool) → m < n → slice_get places m ≡ Some k
        → slice_get places n ≡ Some l → slice_get jobs k ≡ Some a → slice_get jobs l ≡ Some b
        → a.0 ≡ b.0 → k < l
    -- One outcome a job, in the script's order, and each as the history has it.
    pub as_many : length outcomes ≡ length jobs
    pub each : (n k : ℕ) (job : ℕ × C × Bool) (o : HistoryOutcome A)
        → slice_get places n ≡ Some k → slice_get jobs k ≡ Some job
        → slice_get outcomes k ≡ Some o → EndsSo history n job o
    -- Three entries a job, and one less for each that is withdrawn.
    pub count : length history + withdrawals history ≡ 3 * length jobs

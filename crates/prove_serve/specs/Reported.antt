-- The outcomes of a history, by how the jobs of the table ended.
use Rattle.std.specs.Prelude.{◌≡◌, ◌≢◌, ◌⊎◌, ℕ, List, Some, slice_get}
use Rattle.job_table.specs.declared.event.Outcome.TheVariants as outcomes
use Rattle.job_table.specs.declared.slot.Seen.{Seen}
use Rattle.job_table.specs.declared.slot.Seen.TheVariants as seen
use Rattle.prove_serve.specs.declared.job.Job.{Job}
use Rattle.prove_serve.specs.declared.job.Reply.{Reply}
use Rattle.prove_serve.specs.declared.outcome.HistoryOutcome.{HistoryOutcome}
use Rattle.prove_serve.specs.declared.outcome.HistoryOutcome.TheVariants.{Answer, Memory, Withdrawn}

-- the outcome of a job that ended so; a job that waits or runs has no answer
abbrev pub reported : {A : Type 0} → Seen (Reply A) → HistoryOutcome A
reported seen.Queued = Memory
reported seen.Running = Memory
reported (seen.Done (outcomes.Answer r)) = Answer r.answer
reported (seen.Done outcomes.Memory) = Memory
reported seen.Withdrawn = Withdrawn

-- an outcome is that of a job whose place it is, or the place is no job's
abbrev pub AreReported : {C A : Type 0} → List (Job C × Seen (Reply A)) → List (HistoryOutcome A)
    → Type 0
AreReported {C} {A} jobs outcomes = (k : ℕ) (o : HistoryOutcome A) → slice_get outcomes k ≡ Some o
    → ((n : ℕ) × (job : Job C × Seen (Reply A)) × (slice_get jobs n ≡ Some job)
    × (job.0.place ≡ k) × (o ≡ reported job.1))
    ⊎ ((n : ℕ) (job : Job C × Seen (Reply A)) → slice_get jobs n ≡ Some job → job.0.place ≢ k)

-- the place of each
abbrev pub place_of : {C A : Type 0} → Job C × Seen A → ℕ
place_of job = job.0.place

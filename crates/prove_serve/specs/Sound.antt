-- What the threads of a service do at the table.
use Rattle.std.specs.Prelude.{◌≡◌, ◌⊎◌, ◌≤◌, ◌<◌, ◌+◌, ⊤, ℕ, true, List, [], length, Option, None, Some}
use Rattle.std.specs.Prelude.{slice_get}
use mathlib.Core.List.{IsPrefix}
use Rattle.tallies.specs.Tallies.{times, total}
use Rattle.job_core.specs.JobMachine.{are_steps}
use Rattle.job_table.specs.declared.event.Event.{Event}
use Rattle.job_table.specs.declared.event.Event.TheVariants.{Submit, Take, Finish, Withdraw}
use Rattle.job_table.specs.declared.slot.Seen.{Seen}
use Rattle.job_table.specs.declared.table.Receipt.{Receipt}
use Rattle.job_table.specs.History.{Has, Submits, entries_of, jobs_of}
use Rattle.job_table.specs.Slots.{AreEnds}
use Rattle.job_table.specs.Passes.{PassView, NoneQueued, NoneRunning}
use Rattle.prove_serve.specs.declared.job.Job.{Job}
use Rattle.prove_serve.specs.declared.script.Duty.{Duty}
use Rattle.prove_serve.specs.Script.{IsOf, jobs_in}

module _ {C A : Type 0} where
  -- the job of this number was marked
  abbrev pub IsMarked : List (Event (Job C) A) → ℕ → Type 0
  IsMarked seen n = (job : Job C) × (job.marked ≡ true) × Has seen (Submits n job)

  abbrev pub AreMarked : List (Event (Job C) A) → List Receipt → Type 0
  AreMarked seen receipts = (k : ℕ) (receipt : Receipt) → slice_get receipts k ≡ Some receipt
      → IsMarked seen receipt.job

  -- a job that is submitted is in the script, and one that is withdrawn was marked
  abbrev pub IsRight : List (Job C) → List (Event (Job C) A) → Event (Job C) A → Type 0
  IsRight script seen (Submit n kept) = IsOf script kept.value
  IsRight script seen (Take n) = ⊤
  IsRight script seen (Finish n kept) = ⊤
  IsRight script seen (Withdraw n) = IsMarked seen n

  -- so is each event at one of the places
  abbrev pub AreRight : List (Job C) → List (Event (Job C) A) → List ℕ → Type 0
  AreRight script seen mine = (p : ℕ) (e : Event (Job C) A) → slice_get seen p ≡ Some e
      → 1 ≤ times p mine → IsRight script seen e

  abbrev pub ActsFor : List (Job C) → PassView (Event (Job C) A) → Type 0
  ActsFor script pass = AreRight script pass.seen pass.mine

  -- 1 where a job is submitted
  abbrev pub submits : Option (Event (Job C) A) → ℕ
  submits None = 0
  submits (Some (Submit n kept)) = 1
  submits (Some (Take n)) = 0
  submits (Some (Finish n kept)) = 0
  submits (Some (Withdraw n)) = 0

  -- how many jobs the pass has submitted
  abbrev pub submits_at : List (Event (Job C) A) → List ℕ → ℕ
  submits_at seen mine = total (λ p. submits (slice_get seen p)) mine

  abbrev pub submitted_by : PassView (Event (Job C) A) → ℕ
  submitted_by pass = submits_at pass.seen pass.mine

  -- one job was submitted before another
  abbrev pub Precedes : List (Event (Job C) A) → Job C → Job C → Type 0
  Precedes seen a b =
      (m : ℕ) × (n : ℕ) × (m < n) × Has seen (Submits m a) × Has seen (Submits n b)

  -- the jobs were submitted, in their order
  pub record AreSubmitted (seen : List (Event (Job C) A)) (jobs : List (Job C)) : Type 0 where
    pub each : (i : ℕ) (job : Job C) → slice_get jobs i ≡ Some job
        → (n : ℕ) × Has seen (Submits n job)
    pub in_order : (i k : ℕ) (a b : Job C) → i < k → slice_get jobs i ≡ Some a
        → slice_get jobs k ≡ Some b → Precedes seen a b

  -- the table was full before the pass had submitted so many
  abbrev pub FellShort : PassView (Event (Job C) A) → ℕ → Type 0
  FellShort pass many = (pass.capacity ≤ length (jobs_of pass.seen)) × (submitted_by pass < many)

  -- the pass submitted these jobs and no others, as far as the table had capacity
  pub record HasSubmitted (pass : PassView (Event (Job C) A)) (jobs : List (Job C)) : Type 0 where
    pub few : submitted_by pass ≤ length jobs
    pub all : AreSubmitted pass.seen jobs ⊎ FellShort pass (length jobs)

  abbrev pub AreAllSubmitted : List (Event (Job C) A) → List (Duty C) → Type 0
  AreAllSubmitted seen duties = (t : ℕ) (duty : Duty C) → slice_get duties t ≡ Some duty
      → AreSubmitted seen duty.jobs.items

  -- the same of the jobs of these duties
  pub record HasDone (pass : PassView (Event (Job C) A)) (duties : List (Duty C)) : Type 0 where
    pub few : submitted_by pass ≤ jobs_in duties
    pub all : AreAllSubmitted pass.seen duties ⊎ FellShort pass (jobs_in duties)

  -- the job was submitted, after all that the pass knew, or the table was full
  pub record Offers (job : Job C) (old new : PassView (Event (Job C) A)) : Type 0 where
    pub begins : IsPrefix old.seen new.seen
    pub capacity : new.capacity ≡ old.capacity
    pub answer : ((n : ℕ) × Has new.seen (Submits n job)
        × ((m : ℕ) (other : Job C) → Has old.seen (Submits m other) → m < n)
        × (submitted_by new ≡ submitted_by old + 1))
        ⊎ ((new.capacity ≤ length (jobs_of new.seen)) × (submitted_by new ≡ submitted_by old))

module _ {C A : Type 0} (fits : A → Job C → Type 0) where
  -- The history replays, and the jobs have ended as it says. It submits the jobs of the script,
  -- each, and those of one client in their order, and it withdraws marked ones alone.
  pub record IsServed (script : List (Job C)) (history : List (Event (Job C) A))
      (jobs : List (Job C × Seen A)) : Type 0 where
    pub steps : (capacity : ℕ) × (are_steps capacity [] (entries_of history) ≡ true)
    pub ends : AreEnds fits history jobs
    pub right : (p : ℕ) (e : Event (Job C) A) → slice_get history p ≡ Some e
        → IsRight script history e
    pub few : length (jobs_of history) ≤ length script
    pub each : (k : ℕ) (job : Job C) → slice_get script k ≡ Some job
        → (n : ℕ) × Has history (Submits n job)
    pub in_order : (k l : ℕ) (a b : Job C) → k < l → slice_get script k ≡ Some a
        → slice_get script l ≡ Some b → a.client ≡ b.client → Precedes history a b
    pub drained : NoneQueued history
    pub ended : NoneRunning history

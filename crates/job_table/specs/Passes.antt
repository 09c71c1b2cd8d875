-- What a pass knows, owns and holds, and what a call changes of it.
use Rattle.std.specs.Prelude.{◌≡◌, ◌≤◌, ℕ, true, cond, List, [], ◌∷◌, ◌++◌, length, Option, Some, None, slice_get}
use Rattle.std.specs.declared.snapshot.Snapshot.{Snapshot}
use mathlib.Core.List.{IsPrefix}
use Rattle.atomic_table.specs.Seated.{TableId}
use Rattle.tallies.specs.Tallies.{times, total}
use Rattle.turn_lock.specs.Lists.{IsRising}
use Rattle.job_core.specs.JobMachine.{are_steps, passes, is_running}
use Rattle.job_core.specs.declared.entry.JobState.{JobState}
use Rattle.job_core.specs.declared.entry.JobState.TheVariants.{Queued, Running}
use Rattle.job_table.specs.declared.event.Event.{Event}
use Rattle.job_table.specs.declared.event.Event.TheVariants.{Submit, Take, Finish, Withdraw}
use Rattle.job_table.specs.declared.event.Outcome.{Outcome}
use Rattle.job_table.specs.History.{entries_of, jobs_of}

pub record TableView : Type 0 where
  pub table : TableId
  pub shares : ℕ
  pub capacity : ℕ

pub record PassView (E : Type 0) : Type 0 where
  pub table : TableId
  pub shares : ℕ
  pub capacity : ℕ
  pub seen : List E
  pub mine : List ℕ
  pub held : ℕ

-- each place was seen
abbrev pub Within : {E : Type 0} → List E → List ℕ → Type 0
Within seen mine = (x : ℕ) → length seen ≤ x → times x mine ≡ 0

module _ {C A : Type 0} where
  -- a job's Take and Finish are in one list of places
  abbrev pub Pairs : List (Event C A) → List ℕ → Type 0
  Pairs h mine = (p q j : ℕ) (o : Snapshot (Outcome A)) → slice_get h p ≡ Some (Take j)
      → slice_get h q ≡ Some (Finish j o) → times p mine ≡ times q mine

  -- the history is one of steps, and the places are a rising list of its own
  pub record IsLegal (capacity : ℕ) (seen : List (Event C A)) (mine : List ℕ) : Type 0 where
    pub steps : are_steps capacity [] (entries_of seen) ≡ true
    pub within : Within seen mine
    pub rising : IsRising mine
    pub pairs : Pairs seen mine

  -- 1 for a Take whose job still runs
  abbrev pub runs_at : List JobState → Option (Event C A) → ℕ
  runs_at jobs None = 0
  runs_at jobs (Some (Submit j c)) = 0
  runs_at jobs (Some (Take j)) = cond (passes is_running (slice_get jobs j)) 1 0
  runs_at jobs (Some (Finish j o)) = 0
  runs_at jobs (Some (Withdraw j)) = 0

  -- how many jobs are held: they run, and their Take is at one of the places
  abbrev pub held_in : List (Event C A) → List ℕ → ℕ
  held_in seen mine = total (λ p. runs_at (jobs_of seen) (slice_get seen p)) mine

  -- a pass of the table, which knows a legal history and how many jobs it holds
  pub record IsPassOf (t : TableView) (p : PassView (Event C A)) : Type 0 where
    pub table : p.table ≡ t.table
    pub capacity : p.capacity ≡ t.capacity
    pub legal : IsLegal t.capacity p.seen p.mine
    pub held : p.held ≡ held_in p.seen p.mine
    pub few : p.held ≤ length p.seen

  -- no job is in this state at the end of the history
  abbrev pub NoneQueued : List (Event C A) → Type 0
  NoneQueued h = (job : ℕ) → ¬ (slice_get (jobs_of h) job ≡ Some Queued)

  abbrev pub NoneRunning : List (Event C A) → Type 0
  NoneRunning h = (job : ℕ) → ¬ (slice_get (jobs_of h) job ≡ Some Running)

  -- a running job whose Take is at a place of the pass
  pub record Holds (seen : List (Event C A)) (mine : List ℕ) (job : ℕ) : Type 0 where
    pub place : ℕ
    pub takes_it : slice_get seen place ≡ Some (Take job)
    pub own : times place mine ≡ 1
    pub runs : slice_get (jobs_of seen) job ≡ Some Running

  -- the call saw the history so far, and added nothing
  pub record Looks (old new : PassView (Event C A)) : Type 0 where
    pub begins : IsPrefix old.seen new.seen
    pub same : new ≡ record old { seen = new.seen }
    pub holds : (job : ℕ) → Holds old.seen old.mine job → Holds new.seen new.mine job

  -- the call added an event to the history so far
  pub record Adds (old : PassView (Event C A)) (says : List (Event C A) → Event C A
      → Type 0) (new : PassView (Event C A)) : Type 0 where
    pub before : List (Event C A)
    pub event : Event C A
    pub says_so : says before event
    pub begins : IsPrefix old.seen before
    pub seen : new.seen ≡ before ++ event ∷ []
    pub mine : new.mine ≡ old.mine ++ length before ∷ []
    pub same : (new.table ≡ old.table) × (new.shares ≡ old.shares) × (new.capacity ≡ old.capacity)
    pub holds : (job : ℕ) → ((o : Snapshot (Outcome A)) → ¬ (event ≡ Finish job o))
        → Holds old.seen old.mine job → Holds new.seen new.mine job

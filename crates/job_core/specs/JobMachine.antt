-- The machine of jobs: which entries are steps, and where they lead.
use Rattle.std.specs.Prelude.{◌≡◌, ◌<◌, ℕ, suc, Bool, true, false, ◌&&◌, ◌==◌, ltb, List, [], ◌∷◌, ◌++◌, length, Option, Some, None, Result, MatchResult, slice_get, slice_set, get_or}
use Rattle.std.specs.List.{position_or_len}
use Rattle.job_core.specs.declared.entry.Entry.{Entry}
use Rattle.job_core.specs.declared.entry.Entry.TheVariants.{Submit, Take, Finish, Withdraw}
use Rattle.job_core.specs.declared.entry.JobState.{JobState}
use Rattle.job_core.specs.declared.entry.JobState.TheVariants.{Queued, Running, Done, Withdrawn}

abbrev pub is_queued : JobState → Bool
is_queued Queued = true
is_queued Running = false
is_queued Done = false
is_queued Withdrawn = false

abbrev pub is_running : JobState → Bool
is_running Queued = false
is_running Running = true
is_running Done = false
is_running Withdrawn = false

-- the job is there, and passes
abbrev pub passes : (JobState → Bool) → Option JobState → Bool
passes p None = false
passes p (Some s) = p s

-- how many jobs are before the first queued one
abbrev pub before_queued : List JobState → ℕ
before_queued js = position_or_len is_queued js

-- the jobs before this one aren't queued
abbrev pub AreNotQueued : List JobState → ℕ → Type 0
AreNotQueued js n = (k : ℕ) (d : JobState) → k < n → is_queued (get_or js k d) ≡ false

-- whether an entry is a step
abbrev pub is_step : ℕ → List JobState → Entry → Bool
is_step capacity js (Submit j) = (j == length js) && ltb (length js) capacity
is_step capacity js (Take j) = (j == before_queued js) && ltb j (length js)
is_step capacity js (Finish j) = passes is_running (slice_get js j)
is_step capacity js (Withdraw j) = passes is_queued (slice_get js j)

abbrev pub after : List JobState → Entry → List JobState
after js (Submit j) = js ++ Queued ∷ []
after js (Take j) = slice_set js j Running
after js (Finish j) = slice_set js j Done
after js (Withdraw j) = slice_set js j Withdrawn

-- the step was made where the entry is one, and else nothing changed
abbrev pub Steps : {Done Refused : Type 0} → ℕ × List JobState → Entry → ℕ × List JobState
    → Result Done Refused → Type 0
Steps old e new r = MatchResult r
    (λ _. (is_step old.0 old.1 e ≡ true) × (new ≡ (old.0, after old.1 e)))
    (λ _. (is_step old.0 old.1 e ≡ false) × (new ≡ old))

-- each entry in turn is a step
abbrev pub are_steps : ℕ → List JobState → List Entry → Bool
are_steps capacity js [] = true
are_steps capacity js (e ∷ es) = is_step capacity js e && are_steps capacity (after js e) es

abbrev pub replay : List JobState → List Entry → List JobState
replay js [] = js
replay js (e ∷ es) = replay (after js e) es

-- how many of the entries withdraw a job
abbrev pub withdrawals : List Entry → ℕ
withdrawals [] = 0
withdrawals (Submit j ∷ es) = withdrawals es
withdrawals (Take j ∷ es) = withdrawals es
withdrawals (Finish j ∷ es) = withdrawals es
withdrawals (Withdraw j ∷ es) = suc (withdrawals es)

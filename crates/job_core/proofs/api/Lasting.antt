-- What stays true of a job while a run goes on.
use Rattle.std.proofs.Common.{◌≡◌, ◌≢◌, ℕ, zero, suc, Bool, true, false, true≢false, ◌⊎◌, inl, inr, ⊎_elim, List, [], ◌∷◌, ◌++◌, length, set, Option, Some, None, sym, refl, ap, ◌∙◌}
use mathlib.Core.Logic.{dite}
use native.Mathlib.Decide.{ℕ_discrete}
use Rattle.std.specs.List.{slice_get}
use Rattle.job_core.specs.declared.entry.Entry.{Entry}
use Rattle.job_core.specs.declared.entry.Entry.TheVariants.{Submit, Take, Finish, Withdraw}
use Rattle.job_core.specs.declared.entry.JobState.{JobState}
use Rattle.job_core.specs.declared.entry.JobState.TheVariants.{Queued, Running, Done, Withdrawn}
use Rattle.job_core.specs.JobMachine.{passes, is_step, after, are_steps, replay}
use Rattle.job_core.proofs.api.Places.{no_some, some_eq, get_longer, get_set_else, get_set_same, get_within, get_last, get_snoc_else}
use Rattle.job_core.proofs.api.Runs.{and_left, and_right, take_queued, finish_running, withdraw_queued, passes_is}

pub steps_rest : (capacity : ℕ) (js : List JobState) (a b : List Entry) → are_steps capacity js (a ++ b) ≡ true → are_steps capacity (replay js a) b ≡ true
steps_rest capacity js [] b ok = ok
steps_rest capacity js (e ∷ a) b ok = steps_rest capacity (after js e) a b (and_right (is_step capacity js e) (are_steps capacity (after js e) (a ++ b)) ok)

pub replay_rest : (js : List JobState) (a b : List Entry) → replay js (a ++ b) ≡ replay (replay js a) b
replay_rest js [] b = refl
replay_rest js (e ∷ a) b = replay_rest (after js e) a b

-- a job in one state isn't in another
clash : (js : List JobState) (i j : ℕ) (s t : JobState) → slice_get js i ≡ Some s → slice_get js j ≡ Some t → (s ≡ t → ⊥) → j ≢ i
clash js i j s t a b n e = n (some_eq s t (sym a ∙ ap (slice_get js) (sym e) ∙ b))

-- a running job runs on until it is finished
runs_on : (capacity : ℕ) (js : List JobState) (e : Entry) (j : ℕ) → slice_get js j ≡ Some Running → is_step capacity js e ≡ true → (e ≡ Finish j → ⊥) → slice_get (after js e) j ≡ Some Running
runs_on capacity js (Submit i) j at ok n = get_longer js (Queued ∷ []) j Running at
runs_on capacity js (Take i) j at ok n = get_set_else js i j Running (clash js i j Queued Running (take_queued capacity js i ok) at (λ e. cc)) ∙ at
runs_on capacity js (Finish i) j at ok n = get_set_else js i j Done (λ e. n (ap (λ (k : ℕ). Finish k) (sym e))) ∙ at
runs_on capacity js (Withdraw i) j at ok n = get_set_else js i j Withdrawn (clash js i j Queued Running (withdraw_queued capacity js i ok) at (λ e. cc)) ∙ at

pub still_running : (capacity : ℕ) (js : List JobState) (es : List Entry) (j : ℕ) → slice_get js j ≡ Some Running → are_steps capacity js es ≡ true → ((q : ℕ) → slice_get es q ≡ Some (Finish j) → ⊥) → slice_get (replay js es) j ≡ Some Running
still_running capacity js [] j at ok n = at
still_running capacity js (e ∷ es) j at ok n = still_running capacity (after js e) es j (runs_on capacity js e j at (and_left (is_step capacity js e) (are_steps capacity (after js e) es) ok) (λ is. n 0 (ap (λ (x : Entry). Some x) is)))
    (and_right (is_step capacity js e) (are_steps capacity (after js e) es) ok) (λ q f. n (suc q) f)

abbrev was_taken : JobState → Bool
was_taken Queued = false
was_taken Running = true
was_taken Done = true
was_taken Withdrawn = false

abbrev is_done : JobState → Bool
is_done Queued = false
is_done Running = false
is_done Done = true
is_done Withdrawn = false

done_is : (s : JobState) → is_done s ≡ true → s ≡ Done
done_is Done e = refl
done_is Queued e = absurd (true≢false (sym e))
done_is Running e = absurd (true≢false (sym e))
done_is Withdrawn e = absurd (true≢false (sym e))

-- what doesn't hold of queued jobs, nor ends with running, lasts
module _ (p : JobState → Bool) (queued : p Queued ≡ false) (ends : p Running ≡ true → p Done ≡ true) where
  passes_at : (js : List JobState) (j : ℕ) (s : JobState) → slice_get js j ≡ Some s → passes p (slice_get js j) ≡ true → p s ≡ true
  passes_at js j s at h = ap (passes p) (sym at) ∙ h

  lasts_else : (js : List JobState) (i j : ℕ) (s : JobState) → j ≢ i → passes p (slice_get js j) ≡ true → passes p (slice_get (set js i s) j) ≡ true
  lasts_else js i j s n h = ap (passes p) (get_set_else js i j s n) ∙ h

  not_queued : (js : List JobState) (i j : ℕ) → slice_get js i ≡ Some Queued → passes p (slice_get js j) ≡ true → j ≢ i
  not_queued js i j at h e = true≢false (sym (passes_at js i Queued at (ap (λ (k : ℕ). passes p (slice_get js k)) (sym e) ∙ h)) ∙ queued)

  lasts_longer : (js : List JobState) (j : ℕ) (o : Option JobState) → slice_get js j ≡ o → passes p o ≡ true → passes p (slice_get (js ++ Queued ∷ []) j) ≡ true
  lasts_longer js j None at h = absurd (true≢false (sym h))
  lasts_longer js j (Some s) at h = ap (passes p) (get_longer js (Queued ∷ []) j s at) ∙ h

  lasts : (capacity : ℕ) (js : List JobState) (e : Entry) (j : ℕ) → is_step capacity js e ≡ true → passes p (slice_get js j) ≡ true → passes p (slice_get (after js e) j) ≡ true
  lasts capacity js (Submit i) j ok h = lasts_longer js j (slice_get js j) refl h
  lasts capacity js (Take i) j ok h = lasts_else js i j Running (not_queued js i j (take_queued capacity js i ok) h) h
  lasts capacity js (Withdraw i) j ok h = lasts_else js i j Withdrawn (not_queued js i j (withdraw_queued capacity js i ok) h) h
  lasts capacity js (Finish i) j ok h = dite (ℕ_discrete j i)
      (λ (e : j ≡ i). ap (λ (k : ℕ). passes p (slice_get (set js i Done) k)) e ∙ ap (passes p) (get_set_same js i Done (get_within js Running i (finish_running capacity js i ok)))
      ∙ ends (passes_at js i Running (finish_running capacity js i ok) (ap (λ (k : ℕ). passes p (slice_get js k)) (sym e) ∙ h)))
      (λ (n : j ≢ i). lasts_else js i j Done n h)

  lasts_on : (capacity : ℕ) (js : List JobState) (es : List Entry) (j : ℕ) → are_steps capacity js es ≡ true → passes p (slice_get js j) ≡ true → passes p (slice_get (replay js es) j) ≡ true
  lasts_on capacity js [] j ok h = h
  lasts_on capacity js (e ∷ es) j ok h = lasts_on capacity (after js e) es j (and_right (is_step capacity js e) (are_steps capacity (after js e) es) ok) (lasts capacity js e j (and_left (is_step capacity js e) (are_steps capacity (after js e) es) ok) h)

-- a job that was finished is done
pub finish_done : (capacity : ℕ) (js : List JobState) (es : List Entry) (q j : ℕ) → are_steps capacity js es ≡ true → slice_get es q ≡ Some (Finish j) → slice_get (replay js es) j ≡ Some Done
finish_done capacity js [] q j ok at = absurd (no_some (Finish j) at)
finish_done capacity js (e ∷ es) (suc q) j ok at = finish_done capacity (after js e) es q j (and_right (is_step capacity js e) (are_steps capacity (after js e) es) ok) at
finish_done capacity js (e ∷ es) zero j ok at = let is = some_eq e (Finish j) at in
    let runs = finish_running capacity js j (ap (is_step capacity js) (sym is) ∙ and_left (is_step capacity js e) (are_steps capacity (after js e) es) ok) in
    let now : slice_get (after js e) j ≡ Some Done = ap (λ (x : Entry). slice_get (after js x) j) is ∙ get_set_same js j Done (get_within js Running j runs) in
    passes_is is_done Done (slice_get (replay (after js e) es) j) done_is (lasts_on is_done refl (λ r. absurd (true≢false (sym r))) capacity (after js e) es j (and_right (is_step capacity js e) (are_steps capacity (after js e) es) ok) (ap (passes is_done) now))

-- a job is taken once
not_taken : (capacity : ℕ) (js : List JobState) (es : List Entry) (q j : ℕ) → are_steps capacity js es ≡ true → passes was_taken (slice_get js j) ≡ true → slice_get es q ≡ Some (Take j) → ⊥
not_taken capacity js [] q j ok h at = no_some (Take j) at
not_taken capacity js (e ∷ es) zero j ok h at = let is = some_eq e (Take j) at in
    not_queued was_taken refl (λ r. refl) js j j (take_queued capacity js j (ap (is_step capacity js) (sym is) ∙ and_left (is_step capacity js e) (are_steps capacity (after js e) es) ok)) h refl
not_taken capacity js (e ∷ es) (suc q) j ok h at = not_taken capacity (after js e) es q j (and_right (is_step capacity js e) (are_steps capacity (after js e) es) ok)
    (lasts was_taken refl (λ r. refl) capacity js e j (and_left (is_step capacity js e) (are_steps capacity (after js e) es) ok) h) at

not_taken_again : (capacity : ℕ) (js : List JobState) (e : Entry) (es : List Entry) (q j : ℕ) → are_steps capacity js (e ∷ es) ≡ true → Some e ≡ Some (Take j) → slice_get es q ≡ Some (Take j) → ⊥
not_taken_again capacity js e es q j ok at later = let is = some_eq e (Take j) at in
    let was = take_queued capacity js j (ap (is_step capacity js) (sym is) ∙ and_left (is_step capacity js e) (are_steps capacity (after js e) es) ok) in
    let now : slice_get (after js e) j ≡ Some Running = ap (λ (x : Entry). slice_get (after js x) j) is ∙ get_set_same js j Running (get_within js Queued j was) in
    not_taken capacity (after js e) es q j (and_right (is_step capacity js e) (are_steps capacity (after js e) es) ok) (ap (passes was_taken) now) later

pub take_once : (capacity : ℕ) (js : List JobState) (es : List Entry) (p q j : ℕ) → are_steps capacity js es ≡ true → slice_get es p ≡ Some (Take j) → slice_get es q ≡ Some (Take j) → p ≡ q
take_once capacity js [] p q j ok a b = absurd (no_some (Take j) a)
take_once capacity js (e ∷ es) zero zero j ok a b = refl
take_once capacity js (e ∷ es) zero (suc q) j ok a b = absurd (not_taken_again capacity js e es q j ok a b)
take_once capacity js (e ∷ es) (suc p) zero j ok a b = absurd (not_taken_again capacity js e es p j ok b a)
take_once capacity js (e ∷ es) (suc p) (suc q) j ok a b = ap suc (take_once capacity (after js e) es p q j (and_right (is_step capacity js e) (are_steps capacity (after js e) es) ok) a b)

-- a job that was taken isn't queued again
pub taken_was : (capacity : ℕ) (js : List JobState) (es : List Entry) (q j : ℕ) → are_steps capacity js es ≡ true → slice_get es q ≡ Some (Take j) → passes was_taken (slice_get (replay js es) j) ≡ true
taken_was capacity js [] q j ok at = absurd (no_some (Take j) at)
taken_was capacity js (e ∷ es) (suc q) j ok at = taken_was capacity (after js e) es q j (and_right (is_step capacity js e) (are_steps capacity (after js e) es) ok) at
taken_was capacity js (e ∷ es) zero j ok at = let is = some_eq e (Take j) at in
    let was = take_queued capacity js j (ap (is_step capacity js) (sym is) ∙ and_left (is_step capacity js e) (are_steps capacity (after js e) es) ok) in
    let now : slice_get (after js e) j ≡ Some Running = ap (λ (x : Entry). slice_get (after js x) j) is ∙ get_set_same js j Running (get_within js Queued j was) in
    lasts_on was_taken refl (λ r. refl) capacity (after js e) es j (and_right (is_step capacity js e) (are_steps capacity (after js e) es) ok) (ap (passes was_taken) now)

pub queued_not_taken : (capacity : ℕ) (js : List JobState) (es : List Entry) (q j : ℕ) → are_steps capacity js es ≡ true → slice_get (replay js es) j ≡ Some Queued → slice_get es q ≡ Some (Take j) → ⊥
queued_not_taken capacity js es q j ok queued at = true≢false (sym (taken_was capacity js es q j ok at) ∙ ap (passes was_taken) queued)

-- a job is finished once
not_finished : (capacity : ℕ) (js : List JobState) (es : List Entry) (q j : ℕ) → are_steps capacity js es ≡ true → passes is_done (slice_get js j) ≡ true → slice_get es q ≡ Some (Finish j) → ⊥
not_finished capacity js [] q j ok h at = no_some (Finish j) at
not_finished capacity js (e ∷ es) zero j ok h at = let is = some_eq e (Finish j) at in
    let runs = finish_running capacity js j (ap (is_step capacity js) (sym is) ∙ and_left (is_step capacity js e) (are_steps capacity (after js e) es) ok) in true≢false (sym h ∙ ap (passes is_done) runs)
not_finished capacity js (e ∷ es) (suc q) j ok h at = not_finished capacity (after js e) es q j (and_right (is_step capacity js e) (are_steps capacity (after js e) es) ok)
    (lasts is_done refl (λ r. absurd (true≢false (sym r))) capacity js e j (and_left (is_step capacity js e) (are_steps capacity (after js e) es) ok) h) at

not_finished_again : (capacity : ℕ) (js : List JobState) (e : Entry) (es : List Entry) (q j : ℕ) → are_steps capacity js (e ∷ es) ≡ true → Some e ≡ Some (Finish j) → slice_get es q ≡ Some (Finish j) → ⊥
not_finished_again capacity js e es q j ok at later = let is = some_eq e (Finish j) at in
    let was = finish_running capacity js j (ap (is_step capacity js) (sym is) ∙ and_left (is_step capacity js e) (are_steps capacity (after js e) es) ok) in
    let now : slice_get (after js e) j ≡ Some Done = ap (λ (x : Entry). slice_get (after js x) j) is ∙ get_set_same js j Done (get_within js Running j was) in
    not_finished capacity (after js e) es q j (and_right (is_step capacity js e) (are_steps capacity (after js e) es) ok) (ap (passes is_done) now) later

pub finish_once : (capacity : ℕ) (js : List JobState) (es : List Entry) (p q j : ℕ) → are_steps capacity js es ≡ true → slice_get es p ≡ Some (Finish j) → slice_get es q ≡ Some (Finish j) → p ≡ q
finish_once capacity js [] p q j ok a b = absurd (no_some (Finish j) a)
finish_once capacity js (e ∷ es) zero zero j ok a b = refl
finish_once capacity js (e ∷ es) zero (suc q) j ok a b = absurd (not_finished_again capacity js e es q j ok a b)
finish_once capacity js (e ∷ es) (suc p) zero j ok a b = absurd (not_finished_again capacity js e es p j ok b a)
finish_once capacity js (e ∷ es) (suc p) (suc q) j ok a b = ap suc (finish_once capacity (after js e) es p q j (and_right (is_step capacity js e) (are_steps capacity (after js e) es) ok) a b)

-- a job is in a state that no change gave it
was_set : (t : JobState) (js : List JobState) (i j : ℕ) (s : JobState) → (s ≡ t → ⊥) → slice_get (set js i s) j ≡ Some t → slice_get js j ≡ Some t
was_set t [] i j s n at = at
was_set t (x ∷ js) zero zero s n at = absurd (n (some_eq s t at))
was_set t (x ∷ js) zero (suc j) s n at = at
was_set t (x ∷ js) (suc i) zero s n at = at
was_set t (x ∷ js) (suc i) (suc j) s n at = was_set t js i j s n at

-- the job that was submitted last is queued
was_there : (t : JobState) (js : List JobState) (j : ℕ) → (Queued ≡ t → ⊥) → slice_get (js ++ Queued ∷ []) j ≡ Some t → slice_get js j ≡ Some t
was_there t js j n at = dite (ℕ_discrete j (length js)) (λ (is : j ≡ length js). absurd (n (some_eq Queued t (sym (get_last js Queued) ∙ ap (slice_get (js ++ Queued ∷ [])) (sym is) ∙ at))))
    (λ (no : j ≢ length js). sym (get_snoc_else js j Queued no) ∙ at)

-- a job that runs was taken
ran_before : (js : List JobState) (e : Entry) (j : ℕ) → ¬ (e ≡ Take j) → slice_get (after js e) j ≡ Some Running → slice_get js j ≡ Some Running
ran_before js (Submit i) j n at = was_there Running js j (λ e. cc) at
ran_before js (Take i) j n at = sym (get_set_else js i j Running (λ e. n (ap (λ (k : ℕ). Take k) (sym e)))) ∙ at
ran_before js (Finish i) j n at = was_set Running js i j Done (λ e. cc) at
ran_before js (Withdraw i) j n at = was_set Running js i j Withdrawn (λ e. cc) at

is_take : (e : Entry) (j : ℕ) → (e ≡ Take j) ⊎ ¬ (e ≡ Take j)
is_take (Take i) j = dite (ℕ_discrete i j) (λ (is : i ≡ j). inl (ap (λ (k : ℕ). Take k) is)) (λ (no : i ≢ j). inr (λ e. no (same i j e))) where
  same : (i j : ℕ) → Take i ≡ Take j → i ≡ j
  same i j e = cc
is_take (Submit i) j = inr (λ e. cc)
is_take (Finish i) j = inr (λ e. cc)
is_take (Withdraw i) j = inr (λ e. cc)

was_taken_at : (js : List JobState) (es : List Entry) (j : ℕ) → slice_get (replay js es) j ≡ Some Running → (slice_get js j ≡ Some Running) ⊎ ((p : ℕ) × (slice_get es p ≡ Some (Take j)))
was_taken_at js [] j at = inl at
was_taken_at js (e ∷ es) j at = ⊎_elim (λ (r : slice_get (after js e) j ≡ Some Running). ⊎_elim (λ (t : e ≡ Take j). inr (0, ap (λ (x : Entry). Some x) t)) (λ (n : ¬ (e ≡ Take j)). inl (ran_before js e j n r)) (is_take e j))
    (λ (f : (p : ℕ) × (slice_get es p ≡ Some (Take j))). inr (suc f.0, f.1)) (was_taken_at (after js e) es j at)

pub running_taken : (es : List Entry) (j : ℕ) → slice_get (replay [] es) j ≡ Some Running → (p : ℕ) × (slice_get es p ≡ Some (Take j))
running_taken es j at = ⊎_elim (λ (r : slice_get [] j ≡ Some Running). absurd (no_some Running r)) (λ (f : (p : ℕ) × (slice_get es p ≡ Some (Take j))). f) (was_taken_at [] es j at)

-- a job is withdrawn exactly where an entry withdraws it
abbrev is_withdrawn : JobState → Bool
is_withdrawn Queued = false
is_withdrawn Running = false
is_withdrawn Done = false
is_withdrawn Withdrawn = true

withdrawn_is : (s : JobState) → is_withdrawn s ≡ true → s ≡ Withdrawn
withdrawn_is Withdrawn e = refl
withdrawn_is Queued e = absurd (true≢false (sym e))
withdrawn_is Running e = absurd (true≢false (sym e))
withdrawn_is Done e = absurd (true≢false (sym e))

pub withdraw_withdrawn : (capacity : ℕ) (js : List JobState) (es : List Entry) (q j : ℕ) → are_steps capacity js es ≡ true → slice_get es q ≡ Some (Withdraw j) → slice_get (replay js es) j ≡ Some Withdrawn
withdraw_withdrawn capacity js [] q j ok at = absurd (no_some (Withdraw j) at)
withdraw_withdrawn capacity js (e ∷ es) (suc q) j ok at = withdraw_withdrawn capacity (after js e) es q j (and_right (is_step capacity js e) (are_steps capacity (after js e) es) ok) at
withdraw_withdrawn capacity js (e ∷ es) zero j ok at = let is = some_eq e (Withdraw j) at in
    let queued = withdraw_queued capacity js j (ap (is_step capacity js) (sym is) ∙ and_left (is_step capacity js e) (are_steps capacity (after js e) es) ok) in
    let now : slice_get (after js e) j ≡ Some Withdrawn = ap (λ (x : Entry). slice_get (after js x) j) is ∙ get_set_same js j Withdrawn (get_within js Queued j queued) in
    passes_is is_withdrawn Withdrawn (slice_get (replay (after js e) es) j) withdrawn_is (lasts_on is_withdrawn refl (λ r. absurd (true≢false (sym r))) capacity (after js e) es j (and_right (is_step capacity js e) (are_steps capacity (after js e) es) ok) (ap (passes is_withdrawn) now))

withdrawn_before : (js : List JobState) (e : Entry) (j : ℕ) → ¬ (e ≡ Withdraw j) → slice_get (after js e) j ≡ Some Withdrawn → slice_get js j ≡ Some Withdrawn
withdrawn_before js (Submit i) j n at = was_there Withdrawn js j (λ e. cc) at
withdrawn_before js (Take i) j n at = was_set Withdrawn js i j Running (λ e. cc) at
withdrawn_before js (Finish i) j n at = was_set Withdrawn js i j Done (λ e. cc) at
withdrawn_before js (Withdraw i) j n at = sym (get_set_else js i j Withdrawn (λ e. n (ap (λ (k : ℕ). Withdraw k) (sym e)))) ∙ at

is_withdraw : (e : Entry) (j : ℕ) → (e ≡ Withdraw j) ⊎ ¬ (e ≡ Withdraw j)
is_withdraw (Withdraw i) j = dite (ℕ_discrete i j) (λ (is : i ≡ j). inl (ap (λ (k : ℕ). Withdraw k) is)) (λ (no : i ≢ j). inr (λ e. no (same i j e))) where
  same : (i j : ℕ) → Withdraw i ≡ Withdraw j → i ≡ j
  same i j e = cc
is_withdraw (Submit i) j = inr (λ e. cc)
is_withdraw (Take i) j = inr (λ e. cc)
is_withdraw (Finish i) j = inr (λ e. cc)

was_withdrawn_at : (js : List JobState) (es : List Entry) (j : ℕ) → slice_get (replay js es) j ≡ Some Withdrawn → (slice_get js j ≡ Some Withdrawn) ⊎ ((p : ℕ) × (slice_get es p ≡ Some (Withdraw j)))
was_withdrawn_at js [] j at = inl at
was_withdrawn_at js (e ∷ es) j at = ⊎_elim (λ (r : slice_get (after js e) j ≡ Some Withdrawn). ⊎_elim (λ (t : e ≡ Withdraw j). inr (0, ap (λ (x : Entry). Some x) t)) (λ (n : ¬ (e ≡ Withdraw j)). inl (withdrawn_before js e j n r)) (is_withdraw e j))
    (λ (f : (p : ℕ) × (slice_get es p ≡ Some (Withdraw j))). inr (suc f.0, f.1)) (was_withdrawn_at (after js e) es j at)

pub withdrawn_withdraws : (es : List Entry) (j : ℕ) → slice_get (replay [] es) j ≡ Some Withdrawn → (p : ℕ) × (slice_get es p ≡ Some (Withdraw j))
withdrawn_withdraws es j at = ⊎_elim (λ (r : slice_get [] j ≡ Some Withdrawn). absurd (no_some Withdrawn r)) (λ (f : (p : ℕ) × (slice_get es p ≡ Some (Withdraw j))). f) (was_withdrawn_at [] es j at)

-- Steps and runs of the machine, and how many entries a run has.
use Rattle.std.proofs.Common.{◌≡◌, ℕ, zero, suc, ◌+◌, ◌*◌, ◌<◌, ◌≤◌, Bool, true, false, true≢false, ◌&&◌, eqb, ltb, List, [], ◌∷◌, ◌++◌, length, get_or, set, Option, Some, None, sym, refl, ap, ◌∙◌, arith, length-set, length-append}
use Rattle.std.specs.List.{slice_get}
use Rattle.std.proofs.lemmas.Bool.Decides.{nat_tests}
use Rattle.std.proofs.lemmas.List.Sums.{passes_at_first}
use Rattle.job_core.specs.declared.entry.Entry.{Entry}
use Rattle.job_core.specs.declared.entry.Entry.TheVariants.{Submit, Take, Finish, Withdraw}
use Rattle.job_core.specs.declared.entry.JobState.{JobState}
use Rattle.job_core.specs.declared.entry.JobState.TheVariants.{Queued, Running, Done, Withdrawn}
use Rattle.job_core.specs.JobMachine.{is_queued, is_running, passes, before_queued, is_step, after, are_steps, replay, withdrawals}
use Rattle.job_core.proofs.api.Places.{no_some, some_here, some_eq}

pub and_left : (a b : Bool) → (a && b) ≡ true → a ≡ true
and_left true b e = refl
and_left false b e = e

pub and_right : (a b : Bool) → (a && b) ≡ true → b ≡ true
and_right true b e = e
and_right false b e = absurd (true≢false (sym e))

pub and_both : {a b : Bool} → a ≡ true → b ≡ true → (a && b) ≡ true
and_both {a} {b} p q = ap (λ (z : Bool × Bool). z.0 && z.1) (λ k. (p k, q k))

-- an entry after a run
pub steps_snoc : (capacity : ℕ) (js : List JobState) (es : List Entry) (e : Entry) → are_steps capacity js (es ++ e ∷ []) ≡ (are_steps capacity js es && is_step capacity (replay js es) e)
steps_snoc capacity js [] e = and_true (is_step capacity js e) where
  and_true : (b : Bool) → (b && true) ≡ (true && b)
  and_true true = refl
  and_true false = refl
steps_snoc capacity js (x ∷ es) e = ap (λ (b : Bool). is_step capacity js x && b) (steps_snoc capacity (after js x) es e) ∙ and_assoc (is_step capacity js x) (are_steps capacity (after js x) es) (is_step capacity (replay (after js x) es) e) where
  and_assoc : (a b c : Bool) → (a && (b && c)) ≡ ((a && b) && c)
  and_assoc true b c = refl
  and_assoc false b c = refl

pub replay_snoc : (js : List JobState) (es : List Entry) (e : Entry) → replay js (es ++ e ∷ []) ≡ after (replay js es) e
replay_snoc js [] e = refl
replay_snoc js (x ∷ es) e = replay_snoc (after js x) es e

-- the state of the job of a step
queued_is : (s : JobState) → is_queued s ≡ true → s ≡ Queued
queued_is Queued e = refl
queued_is Running e = absurd (true≢false (sym e))
queued_is Done e = absurd (true≢false (sym e))
queued_is Withdrawn e = absurd (true≢false (sym e))

running_is : (s : JobState) → is_running s ≡ true → s ≡ Running
running_is Running e = refl
running_is Queued e = absurd (true≢false (sym e))
running_is Done e = absurd (true≢false (sym e))
running_is Withdrawn e = absurd (true≢false (sym e))

pub passes_is : (p : JobState → Bool) (s : JobState) (o : Option JobState) → ((t : JobState) → p t ≡ true → t ≡ s) → passes p o ≡ true → o ≡ Some s
passes_is p s None f e = absurd (true≢false (sym e))
passes_is p s (Some t) f e = ap (λ (x : JobState). Some x) (f t e)

pub take_queued : (capacity : ℕ) (js : List JobState) (j : ℕ) → is_step capacity js (Take j) ≡ true → slice_get js j ≡ Some Queued
take_queued capacity js j ok = at js j (before_queued js) (and_left (eqb j (before_queued js)) (ltb j (length js)) ok) (and_right (eqb j (before_queued js)) (ltb j (length js)) ok) (λ h. passes_at_first is_queued js Running h) where
  at : (js : List JobState) (j k : ℕ) → eqb j k ≡ true → ltb j (length js) ≡ true → (k < length js → is_queued (get_or js k Running) ≡ true) → slice_get js j ≡ Some Queued
  at js j k e lt f = let same : j ≡ k = grind (arith, nat_tests) in let low : j < length js = grind (arith, nat_tests) in
      some_here js j Running low ∙ ap (λ (x : JobState). Some x) (queued_is (get_or js j Running) (ap (λ (i : ℕ). is_queued (get_or js i Running)) same ∙ f (omega arith)))

pub finish_running : (capacity : ℕ) (js : List JobState) (j : ℕ) → is_step capacity js (Finish j) ≡ true → slice_get js j ≡ Some Running
finish_running capacity js j ok = passes_is is_running Running (slice_get js j) running_is ok

pub withdraw_queued : (capacity : ℕ) (js : List JobState) (j : ℕ) → is_step capacity js (Withdraw j) ≡ true → slice_get js j ≡ Some Queued
withdraw_queued capacity js j ok = passes_is is_queued Queued (slice_get js j) queued_is ok

pub submit_last : (capacity : ℕ) (js : List JobState) (j : ℕ) → is_step capacity js (Submit j) ≡ true → (j ≡ length js) × (length js < capacity)
submit_last capacity js j ok = both (length js) capacity j (and_left (eqb j (length js)) (ltb (length js) capacity) ok) (and_right (eqb j (length js)) (ltb (length js) capacity) ok) where
  both : (n capacity j : ℕ) → eqb j n ≡ true → ltb n capacity ≡ true → (j ≡ n) × (n < capacity)
  both n capacity j e lt = let same : j ≡ n = grind (arith, nat_tests) in let low : n < capacity = grind (arith, nat_tests) in (same, low)

-- f of each state, added up
abbrev pub sum_of : (JobState → ℕ) → List JobState → ℕ
sum_of f [] = 0
sum_of f (s ∷ js) = f s + sum_of f js

sum_snoc : (f : JobState → ℕ) (js : List JobState) (s : JobState) → sum_of f (js ++ s ∷ []) ≡ sum_of f js + f s
sum_snoc f [] s = omega arith
sum_snoc f (x ∷ js) s = let i = sum_snoc f js s in omega arith

sum_set : (f : JobState → ℕ) (js : List JobState) (j : ℕ) (s t : JobState) → slice_get js j ≡ Some s → sum_of f (set js j t) + f s ≡ sum_of f js + f t
sum_set f [] j s t e = absurd (no_some s e)
sum_set f (x ∷ js) zero s t e = let same : f x ≡ f s = ap f (some_eq x s e) in omega arith
sum_set f (x ∷ js) (suc j) s t e = let i = sum_set f js j s t e in omega arith

sum_at_most : (f : JobState → ℕ) (most : ℕ) (js : List JobState) → ((s : JobState) → f s ≤ most) → sum_of f js ≤ most * length js
sum_at_most f most [] h = omega arith
sum_at_most f most (s ∷ js) h = let i = sum_at_most f most js h in let a = h s in let m : most * suc (length js) ≡ most + most * length js = grind arith in omega arith

sum_none : (f : JobState → ℕ) → sum_of f [] ≡ 0
sum_none f = refl

pub sum_here : (f : JobState → ℕ) (js : List JobState) (j : ℕ) (s : JobState) → slice_get js j ≡ Some s → f s ≤ sum_of f js
sum_here f [] j s e = absurd (no_some s e)
sum_here f (x ∷ js) zero s e = let same : f x ≡ f s = ap f (some_eq x s e) in omega arith
sum_here f (x ∷ js) (suc j) s e = let i = sum_here f js j s e in omega arith

-- how many entries have led a job to its state
abbrev weight : JobState → ℕ
weight Queued = 1
weight Running = 2
weight Done = 3
weight Withdrawn = 2

weighs_more : (capacity : ℕ) (js : List JobState) (e : Entry) → is_step capacity js e ≡ true → sum_of weight (after js e) ≡ sum_of weight js + 1
weighs_more capacity js (Submit j) ok = sum_snoc weight js Queued
weighs_more capacity js (Take j) ok = let z = sum_set weight js j Queued Running (take_queued capacity js j ok) in omega arith
weighs_more capacity js (Finish j) ok = let z = sum_set weight js j Running Done (finish_running capacity js j ok) in omega arith
weighs_more capacity js (Withdraw j) ok = let z = sum_set weight js j Queued Withdrawn (withdraw_queued capacity js j ok) in omega arith

light : (s : JobState) → weight s ≤ 3
light Queued = omega arith
light Running = omega arith
light Done = omega arith
light Withdrawn = omega arith

weighs : (capacity : ℕ) (js : List JobState) (es : List Entry) → are_steps capacity js es ≡ true → sum_of weight (replay js es) ≡ sum_of weight js + length es
weighs capacity js [] ok = omega arith
weighs capacity js (e ∷ es) ok = let a = weighs_more capacity js e (and_left (is_step capacity js e) (are_steps capacity (after js e) es) ok) in
    let b = weighs capacity (after js e) es (and_right (is_step capacity js e) (are_steps capacity (after js e) es) ok) in omega arith

few_after : (capacity : ℕ) (js : List JobState) (e : Entry) → length js ≤ capacity → is_step capacity js e ≡ true → length (after js e) ≤ capacity
few_after capacity js (Submit j) few ok = let l = length-append js (Queued ∷ []) in let lt = (submit_last capacity js j ok).1 in omega arith
few_after capacity js (Take j) few ok = let l = length-set js j Running in omega arith
few_after capacity js (Finish j) few ok = let l = length-set js j Done in omega arith
few_after capacity js (Withdraw j) few ok = let l = length-set js j Withdrawn in omega arith

few_jobs : (capacity : ℕ) (js : List JobState) (es : List Entry) → length js ≤ capacity → are_steps capacity js es ≡ true → length (replay js es) ≤ capacity
few_jobs capacity js [] few ok = few
few_jobs capacity js (e ∷ es) few ok = few_jobs capacity (after js e) es (few_after capacity js e few (and_left (is_step capacity js e) (are_steps capacity (after js e) es) ok)) (and_right (is_step capacity js e) (are_steps capacity (after js e) es) ok)

-- A run has at most three entries a job.
pub three_each : (capacity : ℕ) (es : List Entry) → are_steps capacity [] es ≡ true → length es ≤ 3 * capacity
three_each capacity es ok = let a = weighs capacity [] es ok in let z = sum_none weight in let b = sum_at_most weight 3 (replay [] es) light in let c = few_jobs capacity [] es (omega arith) ok in omega arith

pub at_most_capacity : (capacity : ℕ) (es : List Entry) → are_steps capacity [] es ≡ true → length (replay [] es) ≤ capacity
at_most_capacity capacity es ok = few_jobs capacity [] es (omega arith) ok

no_fewer : (js : List JobState) (e : Entry) → length js ≤ length (after js e)
no_fewer js (Submit j) = let l = length-append js (Queued ∷ []) in omega arith
no_fewer js (Take j) = let l = length-set js j Running in omega arith
no_fewer js (Finish j) = let l = length-set js j Done in omega arith
no_fewer js (Withdraw j) = let l = length-set js j Withdrawn in omega arith

-- A run submits a job once.
submit_later : (capacity : ℕ) (js : List JobState) (es : List Entry) (p j : ℕ) → are_steps capacity js es ≡ true → slice_get es p ≡ Some (Submit j) → length js ≤ j
submit_later capacity js [] p j ok at = absurd (no_some (Submit j) at)
submit_later capacity js (e ∷ es) zero j ok at = let z = (submit_last capacity js j (ap (is_step capacity js) (sym (some_eq e (Submit j) at)) ∙ and_left (is_step capacity js e) (are_steps capacity (after js e) es) ok)).0 in omega arith
submit_later capacity js (e ∷ es) (suc p) j ok at = let z = submit_later capacity (after js e) es p j (and_right (is_step capacity js e) (are_steps capacity (after js e) es) ok) at in let l = no_fewer js e in omega arith

not_again : (capacity : ℕ) (js : List JobState) (e : Entry) (es : List Entry) (q j : ℕ) → are_steps capacity js (e ∷ es) ≡ true → Some e ≡ Some (Submit j) → slice_get es q ≡ Some (Submit j) → ⊥
not_again capacity js e es q j ok at later = let is = some_eq e (Submit j) at in
    let z = (submit_last capacity js j (ap (is_step capacity js) (sym is) ∙ and_left (is_step capacity js e) (are_steps capacity (after js e) es) ok)).0 in
    let l : length (after js e) ≡ length js + 1 = ap (λ (x : Entry). length (after js x)) is ∙ length-append js (Queued ∷ []) in
    let y = submit_later capacity (after js e) es q j (and_right (is_step capacity js e) (are_steps capacity (after js e) es) ok) later in
    absurd (omega arith)

pub submit_once : (capacity : ℕ) (js : List JobState) (es : List Entry) (p q j : ℕ) → are_steps capacity js es ≡ true → slice_get es p ≡ Some (Submit j) → slice_get es q ≡ Some (Submit j) → p ≡ q
submit_once capacity js [] p q j ok a b = absurd (no_some (Submit j) a)
submit_once capacity js (e ∷ es) zero zero j ok a b = refl
submit_once capacity js (e ∷ es) zero (suc q) j ok a b = absurd (not_again capacity js e es q j ok a b)
submit_once capacity js (e ∷ es) (suc p) zero j ok a b = absurd (not_again capacity js e es p j ok b a)
submit_once capacity js (e ∷ es) (suc p) (suc q) j ok a b = ap suc (submit_once capacity (after js e) es p q j (and_right (is_step capacity js e) (are_steps capacity (after js e) es) ok) a b)

pub no_fewer_on : (capacity : ℕ) (js : List JobState) (es : List Entry) → length js ≤ length (replay js es)
no_fewer_on capacity js [] = omega arith
no_fewer_on capacity js (e ∷ es) = let a = no_fewer_on capacity (after js e) es in let b = no_fewer js e in omega arith

-- a job that was submitted is one of the jobs
pub submit_below : (capacity : ℕ) (js : List JobState) (es : List Entry) (p j : ℕ) → are_steps capacity js es ≡ true → slice_get es p ≡ Some (Submit j) → j < length (replay js es)
submit_below capacity js [] p j ok at = absurd (no_some (Submit j) at)
submit_below capacity js (e ∷ es) zero j ok at = let is = some_eq e (Submit j) at in
    let z = (submit_last capacity js j (ap (is_step capacity js) (sym is) ∙ and_left (is_step capacity js e) (are_steps capacity (after js e) es) ok)).0 in
    let l : length (after js e) ≡ length js + 1 = ap (λ (x : Entry). length (after js x)) is ∙ length-append js (Queued ∷ []) in
    let m = no_fewer_on capacity (after js e) es in omega arith
submit_below capacity js (e ∷ es) (suc p) j ok at = submit_below capacity (after js e) es p j (and_right (is_step capacity js e) (are_steps capacity (after js e) es) ok) at

-- where the first queued job comes after all, no job is queued
pub no_job_queued : (js : List JobState) → before_queued js ≡ length js → (j : ℕ) → ¬ (slice_get js j ≡ Some Queued)
no_job_queued [] none j at = no_some Queued at
no_job_queued (x ∷ js) none zero at = not_first x (some_eq x Queued at) (length js) js none where
  not_first : (x : JobState) → x ≡ Queued → (n : ℕ) (js : List JobState) → before_queued (x ∷ js) ≡ suc n → ⊥
  not_first Queued e n js none = absurd (omega (arith, none))
  not_first Running e n js none = cc
  not_first Done e n js none = cc
  not_first Withdrawn e n js none = cc
no_job_queued (x ∷ js) none (suc j) at = no_job_queued js (later x js none) j at where
  later : (x : JobState) (js : List JobState) → before_queued (x ∷ js) ≡ suc (length js) → before_queued js ≡ length js
  later Queued js none = absurd (omega (arith, none))
  later Running js none = omega (arith, none)
  later Done js none = omega (arith, none)
  later Withdrawn js none = omega (arith, none)

-- 1 for a job that was withdrawn
abbrev withdrawn_one : JobState → ℕ
withdrawn_one Queued = 0
withdrawn_one Running = 0
withdrawn_one Done = 0
withdrawn_one Withdrawn = 1

all_weigh : (js : List JobState) → ((j : ℕ) → ¬ (slice_get js j ≡ Some Queued)) → ((j : ℕ) → ¬ (slice_get js j ≡ Some Running)) → sum_of weight js + sum_of withdrawn_one js ≡ 3 * length js
all_weigh [] q r = refl
all_weigh (Queued ∷ js) q r = absurd (q 0 refl)
all_weigh (Running ∷ js) q r = absurd (r 0 refl)
all_weigh (Done ∷ js) q r = let i = all_weigh js (λ j e. q (suc j) e) (λ j e. r (suc j) e) in omega arith
all_weigh (Withdrawn ∷ js) q r = let i = all_weigh js (λ j e. q (suc j) e) (λ j e. r (suc j) e) in omega arith

withdraws_more : (capacity : ℕ) (js : List JobState) (e : Entry) (es : List Entry) → is_step capacity js e ≡ true → sum_of withdrawn_one (after js e) + withdrawals es ≡ sum_of withdrawn_one js + withdrawals (e ∷ es)
withdraws_more capacity js (Submit j) es ok = let z = sum_snoc withdrawn_one js Queued in omega arith
withdraws_more capacity js (Take j) es ok = let z = sum_set withdrawn_one js j Queued Running (take_queued capacity js j ok) in omega arith
withdraws_more capacity js (Finish j) es ok = let z = sum_set withdrawn_one js j Running Done (finish_running capacity js j ok) in omega arith
withdraws_more capacity js (Withdraw j) es ok = let z = sum_set withdrawn_one js j Queued Withdrawn (withdraw_queued capacity js j ok) in omega arith

withdraws : (capacity : ℕ) (js : List JobState) (es : List Entry) → are_steps capacity js es ≡ true → sum_of withdrawn_one (replay js es) ≡ sum_of withdrawn_one js + withdrawals es
withdraws capacity js [] ok = omega arith
withdraws capacity js (e ∷ es) ok = let a = withdraws_more capacity js e es (and_left (is_step capacity js e) (are_steps capacity (after js e) es) ok) in
    let b = withdraws capacity (after js e) es (and_right (is_step capacity js e) (are_steps capacity (after js e) es) ok) in omega arith

-- Where each job is done or withdrawn, a run has three entries a job, and one less for each that it withdraws.
pub three_less : (capacity : ℕ) (es : List Entry) → are_steps capacity [] es ≡ true → ((j : ℕ) → ¬ (slice_get (replay [] es) j ≡ Some Queued)) → ((j : ℕ) → ¬ (slice_get (replay [] es) j ≡ Some Running)) → length es + withdrawals es ≡ 3 * length (replay [] es)
three_less capacity es ok q r = let a = weighs capacity [] es ok in let z = sum_none weight in let b = all_weigh (replay [] es) q r in let c = withdraws capacity [] es ok in let y = sum_none withdrawn_one in omega arith

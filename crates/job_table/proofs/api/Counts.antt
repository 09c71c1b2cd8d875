-- What a pass holds, counted by what its places took and ended.
use Rattle.std.proofs.Common.{◌≡◌, ◌≢◌, ◌⊎◌, inl, inr, ℕ, zero, suc, ◌+◌, ◌<◌, ◌≤◌, Bool, true, eqb, cond, List, [], ◌∷◌, ◌++◌, length, set, Option, Some, None, sym, refl, ap, ◌∙◌, subst, arith, append_assoc, append-nil}
use mathlib.Core.Logic.{dite}
use native.Mathlib.Decide.{ℕ_discrete}
use Rattle.std.specs.List.{slice_get}
use Rattle.std.proofs.lemmas.Bool.Decides.{nat_tests}
use Rattle.tallies.specs.Tallies.{times, total}
use Rattle.job_core.specs.JobMachine.{is_step, after, are_steps, passes, is_running}
use Rattle.job_core.specs.declared.entry.Entry.TheVariants as entry
use Rattle.job_core.specs.declared.entry.JobState.{JobState}
use Rattle.job_core.specs.declared.entry.JobState.TheVariants as state
use Rattle.job_core.proofs.api.Places.{no_some, some_eq, get_within, get_longer, get_last, get_set_same, get_set_else, get_snoc_else, get_map}
use Rattle.job_core.proofs.api.Runs.{and_left, and_right, steps_snoc, take_queued, finish_running, withdraw_queued}
use Rattle.job_core.proofs.api.Lasting.{take_once, queued_not_taken, running_taken}
use Rattle.job_table.specs.declared.event.Event.{Event}
use Rattle.job_table.specs.declared.event.Event.TheVariants.{Submit, Take, Finish, Withdraw}
use Rattle.job_table.specs.History.{entry_of, entries_of, jobs_of}
use Rattle.job_table.specs.Passes.{Pairs, runs_at, held_in}
use Rattle.job_table.proofs.api.Kept.{entries_snoc, jobs_snoc}

-- by a list that grows at its end
module _ {X : Type 0} (P : List X → Type 0) where
  onward : (front rest : List X) → ((xs : List X) (x : X) → P xs → P (xs ++ x ∷ [])) → P front → P (front ++ rest)
  onward front [] step base = subst P (sym (append-nil front)) base
  onward front (x ∷ rest) step base = subst P (append_assoc front (x ∷ []) rest) (onward (front ++ x ∷ []) rest step (step front x base))

  pub grown : (xs : List X) → P [] → ((xs : List X) (x : X) → P xs → P (xs ++ x ∷ [])) → P xs
  grown xs base step = onward [] xs step base

pub head_once : (x : ℕ) (l : List ℕ) → 1 ≤ times x (x ∷ l)
head_once x l = grind (arith, nat_tests)

pub tail_once : (x y : ℕ) (l : List ℕ) → 1 ≤ times y l → 1 ≤ times y (x ∷ l)
tail_once x y l h = grind (arith, nat_tests)

pub total_none : (f : ℕ → ℕ) (mine : List ℕ) → ((y : ℕ) → f y ≡ 0) → total f mine ≡ 0
total_none f [] h = refl
total_none f (x ∷ l) h = let a = h x in let b = total_none f l h in omega arith

total_alike : (f g : ℕ → ℕ) (mine : List ℕ) → ((y : ℕ) → f y ≡ g y) → total f mine ≡ total g mine
total_alike f g [] h = refl
total_alike f g (x ∷ l) h = let a = h x in let b = total_alike f g l h in omega arith

total_add : (f g : ℕ → ℕ) (mine : List ℕ) → total (λ p. f p + g p) mine ≡ total f mine + total g mine
total_add f g [] = refl
total_add f g (x ∷ l) = let b = total_add f g l in omega arith

-- a list of places, by how often one of them is in it
total_times : (x : ℕ) (mine : List ℕ) → total (λ p. cond (eqb x p) 1 0) mine ≡ times x mine
total_times x [] = refl
total_times x (y ∷ l) = let b = total_times x l in omega arith

-- what is in the list counts
pub total_here : (f : ℕ → ℕ) (x : ℕ) (mine : List ℕ) → 1 ≤ times x mine → f x ≤ total f mine
total_here f x [] h = absurd (omega arith)
total_here f x (y ∷ l) h = dite (ℕ_discrete x y) (λ (is : x ≡ y). let e : f x ≡ f y = ap f is in omega arith)
    (λ (no : x ≢ y). let e = rest x y (times x l) no h in let i = total_here f x l e in omega arith) where
      rest : (x y n : ℕ) → x ≢ y → 1 ≤ cond {A = ℕ} (eqb x y) 1 0 + n → 1 ≤ n
      rest x y n differ h = grind (arith, nat_tests)

module _ {E : Type 0} (f : Option E → ℕ) (none : f None ≡ 0) where
  get_beyond : (h : List E) → slice_get h (length h) ≡ None
  get_beyond [] = refl
  get_beyond (x ∷ h) = get_beyond h

  -- the sum with one element more
  total_split : (h : List E) (e : E) (mine : List ℕ) → (n : ℕ) → f (Some e) ≡ n → (n ≡ 0) ⊎ (n ≡ 1) → total (λ p. f (slice_get (h ++ e ∷ []) p)) mine ≡ total (λ p. f (slice_get h p)) mine + cond (eqb n 0) 0 (times (length h) mine)
  total_split h e [] n is small = grind (arith, nat_tests)
  total_split h e (x ∷ l) n is small = let i = total_split h e l n is small in dite (ℕ_discrete x (length h))
      (λ (same : x ≡ length h).
      let a : f (slice_get (h ++ e ∷ []) x) ≡ n = ap (λ (k : ℕ). f (slice_get (h ++ e ∷ []) k)) same ∙ ap f (get_last h e) ∙ is in
      let b : f (slice_get h x) ≡ 0 = ap (λ (k : ℕ). f (slice_get h k)) same ∙ ap f (get_beyond h) ∙ none in
      here n x (length h) (times (length h) l) _ _ _ _ small same i a b)
      (λ (no : x ≢ length h).
      let a : f (slice_get (h ++ e ∷ []) x) ≡ f (slice_get h x) = ap f (get_snoc_else h x e no) in
      there n x (length h) (times (length h) l) _ _ _ _ no i a) where
        here : (n x m w s t u v : ℕ) → (n ≡ 0) ⊎ (n ≡ 1) → x ≡ m → s ≡ t + cond (eqb n 0) 0 w → u ≡ n → v ≡ 0 → u + s ≡ v + t + cond (eqb n 0) 0 (cond (eqb m x) 1 0 + w)
        here n x m w s t u v small same i a b = grind (arith, nat_tests)

        there : (n x m w s t u v : ℕ) → x ≢ m → s ≡ t + cond (eqb n 0) 0 w → u ≡ v → u + s ≡ v + t + cond (eqb n 0) 0 (cond (eqb m x) 1 0 + w)
        there n x m w s t u v differ i a = grind (arith, nat_tests)

  pub total_plus : (h : List E) (e : E) (mine : List ℕ) → f (Some e) ≡ 1 → total (λ p. f (slice_get (h ++ e ∷ []) p)) mine ≡ total (λ p. f (slice_get h p)) mine + times (length h) mine
  total_plus h e mine is = total_split h e mine 1 is (inr refl)

  pub total_stays : (h : List E) (e : E) (mine : List ℕ) → f (Some e) ≡ 0 → total (λ p. f (slice_get (h ++ e ∷ []) p)) mine ≡ total (λ p. f (slice_get h p)) mine
  total_stays h e mine is = let t = total_split h e mine 0 is (inl refl) in omega arith

-- 1 where the job runs
abbrev running : List JobState → ℕ → ℕ
running js j = cond (passes is_running (slice_get js j)) 1 0

running_is : (js : List JobState) (j : ℕ) (s : JobState) → slice_get js j ≡ Some s → running js j ≡ cond (is_running s) 1 0
running_is js j s at = ap (λ (o : Option JobState). cond (passes is_running o) 1 0) at

get_end : (js : List JobState) → slice_get js (length js) ≡ None
get_end [] = refl
get_end (x ∷ js) = get_end js

runs_submit : (js : List JobState) (j : ℕ) → running (js ++ state.Queued ∷ []) j ≡ running js j
runs_submit js j = dite (ℕ_discrete j (length js))
    (λ (is : j ≡ length js). ap (running (js ++ state.Queued ∷ [])) is ∙ running_is (js ++ state.Queued ∷ []) (length js) state.Queued (get_last js state.Queued) ∙ ap (λ (o : Option JobState). cond (passes is_running o) 1 0) (sym (get_end js)) ∙ ap (running js) (sym is))
    (λ (no : j ≢ length js). ap (λ (o : Option JobState). cond (passes is_running o) 1 0) (get_snoc_else js j state.Queued no))

runs_else : (js : List JobState) (i j : ℕ) (s : JobState) → j ≢ i → running (set js i s) j ≡ running js j
runs_else js i j s differ = ap (λ (o : Option JobState). cond (passes is_running o) 1 0) (get_set_else js i j s differ)

runs_set : (js : List JobState) (i j : ℕ) (s t : JobState) → slice_get js i ≡ Some s → is_running s ≡ is_running t → running (set js i t) j ≡ running js j
runs_set js i j s t at same = dite (ℕ_discrete j i)
    (λ (is : j ≡ i). ap (running (set js i t)) is ∙ running_is (set js i t) i t (get_set_same js i t (get_within js s i at)) ∙ ap (λ (b : Bool). cond b 1 0) (sym same) ∙ sym (running_is js i s at) ∙ ap (running js) (sym is))
    (λ (no : j ≢ i). runs_else js i j t no)

module _ {C A : Type 0} where
  -- 1 where a job is taken, and where one is finished
  abbrev pub takes : Option (Event C A) → ℕ
  takes None = 0
  takes (Some (Submit j c)) = 0
  takes (Some (Take j)) = 1
  takes (Some (Finish j o)) = 0
  takes (Some (Withdraw j)) = 0

  abbrev pub ends : Option (Event C A) → ℕ
  ends None = 0
  ends (Some (Submit j c)) = 0
  ends (Some (Take j)) = 0
  ends (Some (Finish j o)) = 1
  ends (Some (Withdraw j)) = 0

  -- how many of the places take a job, or end one
  abbrev pub taken_at : List (Event C A) → List ℕ → ℕ
  taken_at seen mine = total (λ p. takes (slice_get seen p)) mine

  abbrev pub ended_at : List (Event C A) → List ℕ → ℕ
  ended_at seen mine = total (λ p. ends (slice_get seen p)) mine

  pub last_step : (capacity : ℕ) (h : List (Event C A)) (e : Event C A) → are_steps capacity [] (entries_of (h ++ e ∷ [])) ≡ true → (are_steps capacity [] (entries_of h) ≡ true) × (is_step capacity (jobs_of h) (entry_of e) ≡ true)
  last_step capacity h e ok = let both = sym (steps_snoc capacity [] (entries_of h) (entry_of e)) ∙ ap (are_steps capacity []) (sym (entries_snoc h e)) ∙ ok in
      (and_left (are_steps capacity [] (entries_of h)) (is_step capacity (jobs_of h) (entry_of e)) both, and_right (are_steps capacity [] (entries_of h)) (is_step capacity (jobs_of h) (entry_of e)) both)

  pub take_at : (es : List (Event C A)) (q j : ℕ) → slice_get (entries_of es) q ≡ Some (entry.Take j) → slice_get es q ≡ Some (Take j)
  take_at [] q j e = absurd (no_some (entry.Take j) e)
  take_at (x ∷ es) (suc q) j e = take_at es q j e
  take_at (Submit i c ∷ es) zero j e = absurd (not (some_eq (entry.Submit i) (entry.Take j) e)) where
    not : entry.Submit i ≡ entry.Take j → ⊥
    not e = cc
  take_at (Finish i o ∷ es) zero j e = absurd (not (some_eq (entry.Finish i) (entry.Take j) e)) where
    not : entry.Finish i ≡ entry.Take j → ⊥
    not e = cc
  take_at (Withdraw i ∷ es) zero j e = absurd (not (some_eq (entry.Withdraw i) (entry.Take j) e)) where
    not : entry.Withdraw i ≡ entry.Take j → ⊥
    not e = cc
  take_at (Take i ∷ es) zero j e = ap (λ (x : Event C A). Some x) (same i j (some_eq (entry.Take i) (entry.Take j) e)) where
    same : (i j : ℕ) → entry.Take i ≡ entry.Take j → ◌≡◌ {A = Event C A} (Take i) (Take j)
    same i j e = cc

  -- 1 for this job's Take
  abbrev takes_job : ℕ → Option (Event C A) → ℕ
  takes_job i None = 0
  takes_job i (Some (Submit j c)) = 0
  takes_job i (Some (Take j)) = cond (eqb i j) 1 0
  takes_job i (Some (Finish j o)) = 0
  takes_job i (Some (Withdraw j)) = 0

  module _ (js js' : List JobState) where
    -- jobs whose running is the same make the same sum
    same_runs : ((j : ℕ) → running js' j ≡ running js j) → (o : Option (Event C A)) → runs_at js' o ≡ runs_at js o
    same_runs h None = refl
    same_runs h (Some (Submit j c)) = refl
    same_runs h (Some (Take j)) = h j
    same_runs h (Some (Finish j o)) = refl
    same_runs h (Some (Withdraw j)) = refl

    -- as do those of all jobs but one that wasn't taken
    same_but : (i : ℕ) → ((j : ℕ) → j ≢ i → running js' j ≡ running js j) → (o : Option (Event C A)) → ¬ (o ≡ Some (Take i)) → runs_at js' o ≡ runs_at js o
    same_but i h None n = refl
    same_but i h (Some (Submit j c)) n = refl
    same_but i h (Some (Take j)) n = h j (λ e. n (ap (λ (k : ℕ). Some (Take k)) e))
    same_but i h (Some (Finish j o)) n = refl
    same_but i h (Some (Withdraw j)) n = refl

    -- a job that stops to run leaves the sum of its Take
    one_less : (i : ℕ) → ((j : ℕ) → j ≢ i → running js' j ≡ running js j) → running js i ≡ 1 → running js' i ≡ 0 → (o : Option (Event C A)) → runs_at js o ≡ runs_at js' o + takes_job i o
    one_less i h on off None = refl
    one_less i h on off (Some (Submit j c)) = refl
    one_less i h on off (Some (Take j)) = dite (ℕ_discrete i j)
        (λ (is : i ≡ j). let a : running js j ≡ 1 = ap (running js) (sym is) ∙ on in let b : running js' j ≡ 0 = ap (running js') (sym is) ∙ off in let c = same i j is in omega arith)
        (λ (no : i ≢ j). let a = h j (λ e. no (sym e)) in let c = other i j no in omega arith) where
          same : (i j : ℕ) → i ≡ j → cond {A = ℕ} (eqb i j) 1 0 ≡ 1
          same i j is = grind (arith, nat_tests)

          other : (i j : ℕ) → i ≢ j → cond {A = ℕ} (eqb i j) 1 0 ≡ 0
          other i j differ = grind (arith, nat_tests)
    one_less i h on off (Some (Finish j o)) = refl
    one_less i h on off (Some (Withdraw j)) = refl

  takes_none : (i : ℕ) (o : Option (Event C A)) → ¬ (o ≡ Some (Take i)) → takes_job i o ≡ 0
  takes_none i None n = refl
  takes_none i (Some (Submit j c)) n = refl
  takes_none i (Some (Take j)) n = dite (ℕ_discrete i j) (λ (is : i ≡ j). absurd (n (ap (λ (k : ℕ). Some (Take k)) (sym is)))) (λ (no : i ≢ j). other i j no) where
    other : (i j : ℕ) → i ≢ j → cond {A = ℕ} (eqb i j) 1 0 ≡ 0
    other i j differ = grind (arith, nat_tests)
  takes_none i (Some (Finish j o)) n = refl
  takes_none i (Some (Withdraw j)) n = refl

  once_at : (i p0 p : ℕ) (o : Option (Event C A)) → (p0 ≡ p → o ≡ Some (Take i)) → (o ≡ Some (Take i) → p0 ≡ p) → takes_job i o ≡ cond (eqb p0 p) 1 0
  once_at i p0 p o here only = dite (ℕ_discrete p0 p) (λ (is : p0 ≡ p). ap (takes_job i) (here is) ∙ both i p0 p is) (λ (no : p0 ≢ p). takes_none i o (λ e. no (only e)) ∙ other p0 p no) where
    both : (i p0 p : ℕ) → p0 ≡ p → cond {A = ℕ} (eqb i i) 1 0 ≡ cond (eqb p0 p) 1 0
    both i p0 p is = grind (arith, nat_tests)

    other : (p0 p : ℕ) → p0 ≢ p → 0 ≡ cond {A = ℕ} (eqb p0 p) 1 0
    other p0 p differ = grind (arith, nat_tests)

  pairs_front : (h : List (Event C A)) (e : Event C A) (mine : List ℕ) → Pairs (h ++ e ∷ []) mine → Pairs h mine
  pairs_front h e mine pairs p q j o a b = pairs p q j o (get_longer h (e ∷ []) p (Take j) a) (get_longer h (e ∷ []) q (Finish j o) b)

  -- What is held is what was taken and not ended.
  abbrev Balanced : List (Event C A) → List ℕ → Type 0
  Balanced h mine = held_in h mine + ended_at h mine ≡ taken_at h mine

  held_now : (h : List (Event C A)) (e : Event C A) (mine : List ℕ) (js : List JobState) → after (jobs_of h) (entry_of e) ≡ js → held_in (h ++ e ∷ []) mine ≡ total (λ p. runs_at js (slice_get (h ++ e ∷ []) p)) mine
  held_now h e mine js is = ap (λ (l : List JobState). total (λ p. runs_at l (slice_get (h ++ e ∷ []) p)) mine) (jobs_snoc h e ∙ is)

  balanced_on : (capacity : ℕ) (h : List (Event C A)) (e : Event C A) (mine : List ℕ) → are_steps capacity [] (entries_of h) ≡ true → is_step capacity (jobs_of h) (entry_of e) ≡ true → Pairs (h ++ e ∷ []) mine → Balanced h mine → Balanced (h ++ e ∷ []) mine
  balanced_on capacity h (Submit i c) mine ok can pairs b = let js = jobs_of h in let js' = js ++ state.Queued ∷ [] in let e : Event C A = Submit i c in
      let x = held_now h e mine js' refl in let y = total_stays (runs_at js') refl h e mine refl in
      let z = total_alike (λ p. runs_at js' (slice_get h p)) (λ p. runs_at js (slice_get h p)) mine (λ p. same_runs js js' (runs_submit js) (slice_get h p)) in
      let t = total_stays takes refl h e mine refl in let u = total_stays ends refl h e mine refl in omega arith
  balanced_on capacity h (Withdraw i) mine ok can pairs b = let js = jobs_of h in let js' = set js i state.Withdrawn in let e : Event C A = Withdraw i in
      let x = held_now h e mine js' refl in let y = total_stays (runs_at js') refl h e mine refl in
      let z = total_alike (λ p. runs_at js' (slice_get h p)) (λ p. runs_at js (slice_get h p)) mine
      (λ p. same_runs js js' (λ j. runs_set js i j state.Queued state.Withdrawn (withdraw_queued capacity js i can) refl) (slice_get h p)) in
      let t = total_stays takes refl h e mine refl in let u = total_stays ends refl h e mine refl in omega arith
  balanced_on capacity h (Take i) mine ok can pairs b = let js = jobs_of h in let js' = set js i state.Running in let e : Event C A = Take i in
      let queued = take_queued capacity js i can in
      let up : runs_at js' (Some e) ≡ 1 = running_is js' i state.Running (get_set_same js i state.Running (get_within js state.Queued i queued)) in
      let x = held_now h e mine js' refl in let y = total_plus (runs_at js') refl h e mine up in
      let z = total_alike (λ p. runs_at js' (slice_get h p)) (λ p. runs_at js (slice_get h p)) mine
      (λ p. same_but js js' i (λ j no. runs_else js i j state.Running no) (slice_get h p) (λ at. queued_not_taken capacity [] (entries_of h) p i ok queued (get_map entry_of h p e at))) in
      let t = total_plus takes refl h e mine refl in let u = total_stays ends refl h e mine refl in omega arith
  balanced_on capacity h (Finish i o) mine ok can pairs b = let js = jobs_of h in let js' = set js i state.Done in let e : Event C A = Finish i o in
      let runs = finish_running capacity js i can in
      let f = running_taken (entries_of h) i runs in let at : slice_get h f.0 ≡ Some (Take i) = take_at h f.0 i f.1 in
      let own : times f.0 mine ≡ times (length h) mine = pairs f.0 (length h) i o (get_longer h (e ∷ []) f.0 (Take i) at) (get_last h e) in
      let x = held_now h e mine js' refl in let y = total_stays (runs_at js') refl h e mine refl in
      let z = total_alike (λ p. runs_at js (slice_get h p)) (λ p. runs_at js' (slice_get h p) + takes_job i (slice_get h p)) mine
      (λ p. one_less js js' i (λ j no. runs_else js i j state.Done no) (running_is js i state.Running runs) (running_is js' i state.Done (get_set_same js i state.Done (get_within js state.Running i runs))) (slice_get h p)) in
      let w = total_add (λ p. runs_at js' (slice_get h p)) (λ p. takes_job i (slice_get h p)) mine in
      let v = total_alike (λ p. takes_job i (slice_get h p)) (λ p. cond (eqb f.0 p) 1 0) mine
      (λ p. once_at i f.0 p (slice_get h p) (λ is. ap (slice_get h) (sym is) ∙ at) (λ again. take_once capacity [] (entries_of h) f.0 p i ok f.1 (get_map entry_of h p (Take i) again))) in
      let k = total_times f.0 mine in
      let t = total_stays takes refl h e mine refl in let u = total_plus ends refl h e mine refl in omega arith

  pub balanced : (capacity : ℕ) (h : List (Event C A)) (mine : List ℕ) → are_steps capacity [] (entries_of h) ≡ true → Pairs h mine → held_in h mine + ended_at h mine ≡ taken_at h mine
  balanced capacity h mine = grown (λ (l : List (Event C A)). are_steps capacity [] (entries_of l) ≡ true → Pairs l mine → Balanced l mine) h
      (λ ok pairs. let a = total_none (λ p. runs_at {C = C} {A = A} [] (slice_get [] p)) mine (λ p. refl) in let b = total_none (λ p. ends (slice_get [] p)) mine (λ p. refl) in let c = total_none (λ p. takes (slice_get [] p)) mine (λ p. refl) in omega arith)
      (λ (xs : List (Event C A)) (x : Event C A) f ok pairs. let s = last_step capacity xs x ok in balanced_on capacity xs x mine s.0 s.1 pairs (f s.0 (pairs_front xs x mine pairs)))

  -- a job that runs and whose Take is owned is held
  pub held_some : (h : List (Event C A)) (mine : List ℕ) (p j : ℕ) → slice_get h p ≡ Some (Take j) → slice_get (jobs_of h) j ≡ Some state.Running → 1 ≤ times p mine → 1 ≤ held_in h mine
  held_some h mine p j at runs own = let a = total_here (λ p. runs_at (jobs_of h) (slice_get h p)) p mine own in
      let b : runs_at (jobs_of h) (slice_get h p) ≡ 1 = ap (runs_at (jobs_of h)) at ∙ running_is (jobs_of h) j state.Running runs in omega arith

  -- Where all places are owned and nothing is held, no job runs.
  pub none_runs : (capacity : ℕ) (h : List (Event C A)) (mine : List ℕ) → are_steps capacity [] (entries_of h) ≡ true → ((p : ℕ) → p < length h → 1 ≤ times p mine) → held_in h mine ≡ 0 → (j : ℕ) → ¬ (slice_get (jobs_of h) j ≡ Some state.Running)
  none_runs capacity h mine ok all none j runs = let f = running_taken (entries_of h) j runs in let at = take_at h f.0 j f.1 in
      let some = held_some h mine f.0 j at runs (all f.0 (get_within h (Take j) f.0 at)) in omega arith

-- Each step keeps what the table has of its jobs.
use Rattle.std.proofs.Common.{◌≡◌, ◌≢◌, ℕ, ◌*◌, ◌<◌, true, List, [], ◌∷◌, ◌++◌, length, get_or, set, Option, Some, None, MatchOption, sym, refl, ap, ◌∙◌, subst, arith, length-append, length-set}
use mathlib.Core.Logic.{dite}
use native.Mathlib.Decide.{ℕ_discrete}
use Rattle.std.specs.List.{slice_get}
use Rattle.std.proofs.lemmas.List.{length-map, map-append}
use Rattle.std.specs.declared.snapshot.Snapshot.{Snapshot}
use Rattle.job_core.specs.JobMachine.{is_step, after, are_steps, replay}
use Rattle.job_core.proofs.api.Places.{some_eq, get_within, get_longer, get_last, get_set_same, get_set_else, get_snoc_else, get_map, some_here}
use Rattle.job_core.proofs.api.Runs.{and_both, steps_snoc, replay_snoc, three_each, submit_last, take_queued, finish_running, withdraw_queued, submit_once}
use Rattle.job_core.specs.declared.entry.Entry.{Entry}
use Rattle.job_core.specs.declared.entry.Entry.TheVariants as entry
use Rattle.job_core.specs.declared.entry.JobState.{JobState}
use Rattle.job_core.specs.declared.entry.JobState.TheVariants as state
use Rattle.job_table.specs.declared.event.Event.{Event}
use Rattle.job_table.specs.declared.event.Event.TheVariants.{Submit, Take, Finish, Withdraw}
use Rattle.job_table.specs.declared.event.Outcome.{Outcome}
use Rattle.job_table.specs.declared.slot.Slot.{Slot}
use Rattle.job_table.specs.History.{entry_of, entries_of, jobs_of, Submits, Finishes, Has}
use Rattle.job_table.specs.Slots.{OutcomeFits, IsKept, AreKept, IsTable, IsOutcome, IsSeen, AreEnds}
use Rattle.job_table.specs.declared.slot.Seen.{Seen}
use Rattle.job_table.specs.declared.slot.Seen.TheVariants.{Queued, Running, Done, Withdrawn}
use Rattle.job_table.specs.Ends.{IsEnd, CanEnd, AllCanEnd, HasEnded, HaveEnded}
use Rattle.job_table.specs.Passes.{NoneRunning}
use Rattle.job_core.proofs.api.Lasting.{finish_once}

module _ {C A : Type 0} where
  pub entries_snoc : (h : List (Event C A)) (e : Event C A) → entries_of (h ++ e ∷ []) ≡ entries_of h ++ entry_of e ∷ []
  entries_snoc h e = map-append entry_of h (e ∷ [])

  pub jobs_snoc : (h : List (Event C A)) (e : Event C A) → jobs_of (h ++ e ∷ []) ≡ after (jobs_of h) (entry_of e)
  jobs_snoc h e = ap (replay []) (entries_snoc h e) ∙ replay_snoc [] (entries_of h) (entry_of e)

  pub steps_more : (capacity : ℕ) (h : List (Event C A)) (e : Event C A) → are_steps capacity [] (entries_of h) ≡ true → is_step capacity (jobs_of h) (entry_of e) ≡ true → are_steps capacity [] (entries_of (h ++ e ∷ [])) ≡ true
  steps_more capacity h e ok can = ap (are_steps capacity []) (entries_snoc h e) ∙ steps_snoc capacity [] (entries_of h) (entry_of e) ∙ and_both ok can

  -- there is capacity for one event more
  pub below_capacity : (capacity : ℕ) (h : List (Event C A)) (e : Event C A) (jobs : ℕ × List JobState) → jobs ≡ (capacity, jobs_of h) → are_steps capacity [] (entries_of h) ≡ true → is_step jobs.0 jobs.1 (entry_of e) ≡ true → length h < 3 * capacity
  below_capacity capacity h e jobs is ok can = let l = length-append h (e ∷ []) in let m = length-map (h ++ e ∷ []) entry_of in
      let most = three_each capacity (entries_of (h ++ e ∷ [])) (steps_more capacity h e ok (subst (λ (z : ℕ × List JobState). is_step z.0 z.1 (entry_of e) ≡ true) is can)) in omega arith

  pub has_longer : (h : List (Event C A)) (ys : List (Event C A)) (says : Event C A → Type 0) → Has h says → Has (h ++ ys) says
  has_longer h ys says f = (f.0, f.1, (f.2.0, get_longer h ys f.2.0 f.0 f.2.1))

  pub has_last : (h : List (Event C A)) (e : Event C A) (says : Event C A → Type 0) → says e → Has (h ++ e ∷ []) says
  has_last h e says f = (e, f, (length h, get_last h e))

module _ {C A : Type 0} (fits : A → C → Type 0) where
  pub kept_longer : (h ys : List (Event C A)) (now : Option JobState) (j : ℕ) (s : Slot C A) → IsKept fits h now j s → IsKept fits (h ++ ys) now j s
  kept_longer h ys now j s k = record { submitted = has_longer h ys (Submits j s.kept.value) k.submitted; case = k.case; outcome = longer s.outcome k.outcome } where
    longer : (o : Option (Outcome A)) → MatchOption o (¬ (now ≡ Some state.Done)) (λ (o : Outcome A). (now ≡ Some state.Done) × Has h (Finishes j o) × OutcomeFits fits o s.kept.value)
        → MatchOption o (¬ (now ≡ Some state.Done)) (λ (o : Outcome A). (now ≡ Some state.Done) × Has (h ++ ys) (Finishes j o) × OutcomeFits fits o s.kept.value)
    longer None f = f
    longer (Some o) f = (f.0, has_longer h ys (Finishes j o) f.1, f.2)

  -- a step of one job leaves what is kept of the others
  pub kept_else : (h : List (Event C A)) (e : Event C A) (slots slots' : List (Slot C A)) (j : ℕ) → AreKept fits h slots
      → ((k : ℕ) → k ≢ j → (slice_get slots' k ≡ slice_get slots k) × (slice_get (jobs_of (h ++ e ∷ [])) k ≡ slice_get (jobs_of h) k))
      → ((s : Slot C A) → slice_get slots' j ≡ Some s → IsKept fits (h ++ e ∷ []) (slice_get (jobs_of (h ++ e ∷ [])) j) j s)
      → AreKept fits (h ++ e ∷ []) slots'
  kept_else h e slots slots' j kept others own k s at = dite (ℕ_discrete k j)
      (λ (same : k ≡ j). subst (λ (i : ℕ). IsKept fits (h ++ e ∷ []) (slice_get (jobs_of (h ++ e ∷ [])) i) i s) (sym same) (own s (ap (slice_get slots') (sym same) ∙ at)))
      (λ (no : k ≢ j). subst (λ (o : Option JobState). IsKept fits (h ++ e ∷ []) o k s) (sym (others k no).1) (kept_longer h (e ∷ []) (slice_get (jobs_of h) k) k s (kept k s (sym (others k no).0 ∙ at))))

  stepped : (capacity : ℕ) (jobs jobs' : ℕ × List JobState) (h : List (Event C A)) (e : Event C A) (slots slots' : List (Slot C A)) → IsTable fits capacity jobs h slots → is_step jobs.0 jobs.1 (entry_of e) ≡ true → jobs' ≡ (jobs.0, after jobs.1 (entry_of e))
      → length slots' ≡ length (after (jobs_of h) (entry_of e)) → AreKept fits (h ++ e ∷ []) slots' → IsTable fits capacity jobs' (h ++ e ∷ []) slots'
  stepped capacity jobs jobs' h e slots slots' t can now many kept = record {
    jobs_are = now ∙ ap (λ (z : ℕ × List JobState). (z.0, after z.1 (entry_of e))) t.jobs_are ∙ ap (λ (l : List JobState). (capacity, l)) (sym (jobs_snoc h e));
    steps = steps_more capacity h e t.steps (subst (λ (z : ℕ × List JobState). is_step z.0 z.1 (entry_of e) ≡ true) t.jobs_are can);
    as_many = many ∙ ap length (sym (jobs_snoc h e));
    kept = kept;
  }

  -- what the machine's step says of the replay
  can_of : (capacity : ℕ) (jobs : ℕ × List JobState) (h : List (Event C A)) (e : Entry) → jobs ≡ (capacity, jobs_of h) → is_step jobs.0 jobs.1 e ≡ true → is_step capacity (jobs_of h) e ≡ true
  can_of capacity jobs h e is can = subst (λ (z : ℕ × List JobState). is_step z.0 z.1 e ≡ true) is can

  not_done : (h h' : List (Event C A)) (now now' : Option JobState) (j : ℕ) (o : Option (Outcome A)) (c : C) → ¬ (now ≡ Some state.Done) → ¬ (now' ≡ Some state.Done)
      → MatchOption o (¬ (now ≡ Some state.Done)) (λ (o : Outcome A). (now ≡ Some state.Done) × Has h (Finishes j o) × OutcomeFits fits o c)
      → MatchOption o (¬ (now' ≡ Some state.Done)) (λ (o : Outcome A). (now' ≡ Some state.Done) × Has h' (Finishes j o) × OutcomeFits fits o c)
  not_done h h' now now' j None c n n' f = n'
  not_done h h' now now' j (Some o) c n n' f = absurd (n f.0)

  not_running : (now now' : Option JobState) (o : Option C) (kept : C) → ¬ (now ≡ Some state.Running) → ¬ (now' ≡ Some state.Running) → MatchOption o (now ≡ Some state.Running) (λ (c : C). (c ≡ kept) × ¬ (now ≡ Some state.Running))
      → MatchOption o (now' ≡ Some state.Running) (λ (c : C). (c ≡ kept) × ¬ (now' ≡ Some state.Running))
  not_running now now' None kept n n' f = absurd (n f)
  not_running now now' (Some c) kept n n' f = (f.0, n')

  new_slot : (h : List (Event C A)) (j : ℕ) (case : C) (s : Slot C A) → Has h (Submits j case) → s.kept.value ≡ case → s.case ≡ Some case → s.outcome ≡ None → IsKept fits h (Some state.Queued) j s
  new_slot h j case s has k c o = record {
    submitted = subst (λ (x : C). Has h (Submits j x)) (sym k) has;
    case = subst (λ (z : Option C). MatchOption z (Some state.Queued ≡ Some state.Running) (λ (x : C). (x ≡ s.kept.value) × ¬ (Some state.Queued ≡ Some state.Running))) (sym c) (sym k, (λ e. cc));
    outcome = subst (λ (z : Option (Outcome A)). MatchOption z (¬ (Some state.Queued ≡ Some state.Done)) (λ (x : Outcome A). (Some state.Queued ≡ Some state.Done) × Has h (Finishes j x) × OutcomeFits fits x s.kept.value)) (sym o) (λ e. cc);
  }

  pub submitted : (capacity : ℕ) (jobs jobs' : ℕ × List JobState) (h h' : List (Event C A)) (slots slots' : List (Slot C A)) (j : ℕ) (case : C) (x : Snapshot C) (s : Slot C A) → IsTable fits capacity jobs h slots
      → is_step jobs.0 jobs.1 (entry.Submit j) ≡ true → jobs' ≡ (jobs.0, after jobs.1 (entry.Submit j)) → x.value ≡ case → s.kept.value ≡ case → s.case ≡ Some case → s.outcome ≡ None → h' ≡ h ++ Submit j x ∷ [] → slots' ≡ slots ++ s ∷ []
      → IsTable fits capacity jobs' h' slots'
  submitted capacity jobs jobs' h h' slots slots' j case x s t can now xv k c o grown more =
      let e : Event C A = Submit j x in
      let js : List JobState = jobs_of h in
      let last : j ≡ length js = (submit_last capacity js j (can_of capacity jobs h (entry.Submit j) t.jobs_are can)).0 in
      let many : length slots ≡ length js = t.as_many in
      let after_is : jobs_of (h ++ e ∷ []) ≡ js ++ state.Queued ∷ [] = jobs_snoc h e in
      let at : slice_get (jobs_of (h ++ e ∷ [])) j ≡ Some state.Queued = ap (λ (l : List JobState). slice_get l j) after_is ∙ ap (slice_get (js ++ state.Queued ∷ [])) last ∙ get_last js state.Queued in
      let kept : AreKept fits (h ++ e ∷ []) (slots ++ s ∷ []) = kept_else h e slots (slots ++ s ∷ []) j t.kept
      (λ (i : ℕ) (no : i ≢ j). (get_snoc_else slots i s (λ q. no (q ∙ many ∙ sym last)), ap (λ (l : List JobState). slice_get l i) after_is ∙ get_snoc_else js i state.Queued (λ q. no (q ∙ sym last))))
      (λ (r : Slot C A) (is : slice_get (slots ++ s ∷ []) j ≡ Some r).
      let same : s ≡ r = some_eq s r (sym (get_last slots s) ∙ ap (slice_get (slots ++ s ∷ [])) (many ∙ sym last) ∙ is) in
      subst (λ (z : Slot C A). IsKept fits (h ++ e ∷ []) (slice_get (jobs_of (h ++ e ∷ [])) j) j z) same
      (subst (λ (z : Option JobState). IsKept fits (h ++ e ∷ []) z j s) (sym at) (new_slot (h ++ e ∷ []) j case s (has_last h e (Submits j case) (x, refl, xv)) k c o)))
      in let wide : length (slots ++ s ∷ []) ≡ length (js ++ state.Queued ∷ []) = let a = length-append slots (s ∷ []) in let b = length-append js (state.Queued ∷ []) in omega arith
      in subst (λ (z : List (Event C A) × List (Slot C A)). IsTable fits capacity jobs' z.0 z.1) (λ k. (sym grown k, sym more k)) (stepped capacity jobs jobs' h e slots (slots ++ s ∷ []) t can now wide kept)

  -- a step that sets the state of one job
  pub set_one : (capacity : ℕ) (jobs jobs' : ℕ × List JobState) (h h' : List (Event C A)) (e : Event C A) (slots slots' : List (Slot C A)) (j : ℕ) (to : JobState) → IsTable fits capacity jobs h slots
      → is_step jobs.0 jobs.1 (entry_of e) ≡ true → jobs' ≡ (jobs.0, after jobs.1 (entry_of e)) → ((l : List JobState) → after l (entry_of e) ≡ set l j to) → j < length (jobs_of h) → h' ≡ h ++ e ∷ []
      → length slots' ≡ length slots → ((k : ℕ) → k ≢ j → slice_get slots' k ≡ slice_get slots k) → ((s : Slot C A) → slice_get slots' j ≡ Some s → IsKept fits (h ++ e ∷ []) (Some to) j s)
      → IsTable fits capacity jobs' h' slots'
  set_one capacity jobs jobs' h h' e slots slots' j to t can now sets within grown long others own =
      let js : List JobState = jobs_of h in
      let after_is : jobs_of (h ++ e ∷ []) ≡ set js j to = jobs_snoc h e ∙ sets js in
      let at : slice_get (jobs_of (h ++ e ∷ [])) j ≡ Some to = ap (λ (l : List JobState). slice_get l j) after_is ∙ get_set_same js j to within in
      let kept : AreKept fits (h ++ e ∷ []) slots' = kept_else h e slots slots' j t.kept
      (λ (i : ℕ) (no : i ≢ j). (others i no, ap (λ (l : List JobState). slice_get l i) after_is ∙ get_set_else js j i to no))
      (λ (r : Slot C A) (is : slice_get slots' j ≡ Some r). subst (λ (z : Option JobState). IsKept fits (h ++ e ∷ []) z j r) (sym at) (own r is)) in
      let wide : length slots' ≡ length (after js (entry_of e)) = long ∙ t.as_many ∙ sym (length-set js j to) ∙ ap length (sym (sets js)) in
      subst (λ (z : List (Event C A)). IsTable fits capacity jobs' z slots') (sym grown) (stepped capacity jobs jobs' h e slots slots' t can now wide kept)

  -- a job's slot, and what is kept of it
  pub slot_kept : (capacity : ℕ) (jobs : ℕ × List JobState) (h : List (Event C A)) (slots : List (Slot C A)) (j : ℕ) (slot : Slot C A) (now : JobState) → IsTable fits capacity jobs h slots → slice_get (jobs_of h) j ≡ Some now → slot ≡ get_or slots j slot
      → (j < length slots) × IsKept fits h (Some now) j slot
  slot_kept capacity jobs h slots j slot now t at is = let many = t.as_many in let low = get_within (jobs_of h) now j at in let within : j < length slots = omega arith in
      (within, subst (λ (o : Option JobState). IsKept fits h o j slot) at (t.kept j slot (some_here slots j slot within ∙ ap (λ (s : Slot C A). Some s) (sym is))))

  running_slot : (h : List (Event C A)) (j : ℕ) (s : Slot C A) → IsKept fits h (Some state.Queued) j s → IsKept fits h (Some state.Running) j (record s { case = None })
  running_slot h j s k = record { submitted = k.submitted; case = refl; outcome = not_done h h (Some state.Queued) (Some state.Running) j s.outcome s.kept.value (λ e. cc) (λ e. cc) k.outcome }

  done_slot : (h : List (Event C A)) (now : Option JobState) (j : ℕ) (s : Slot C A) (c : C) (o : Outcome A) → IsKept fits h now j s → Has h (Finishes j o) → OutcomeFits fits o c → c ≡ s.kept.value
      → IsKept fits h (Some state.Done) j (record s { case = Some c; outcome = Some o })
  done_slot h now j s c o k has f is = record { submitted = k.submitted; case = (is, (λ e. cc)); outcome = (refl, has, subst (OutcomeFits fits o) is f) }

  withdrawn_slot : (h : List (Event C A)) (j : ℕ) (s : Slot C A) → IsKept fits h (Some state.Queued) j s → IsKept fits h (Some state.Withdrawn) j s
  withdrawn_slot h j s k = record {
    submitted = k.submitted;
    case = not_running (Some state.Queued) (Some state.Withdrawn) s.case s.kept.value (λ e. cc) (λ e. cc) k.case;
    outcome = not_done h h (Some state.Queued) (Some state.Withdrawn) j s.outcome s.kept.value (λ e. cc) (λ e. cc) k.outcome;
  }

  -- a job that isn't running has its case
  pub case_there : (h : List (Event C A)) (now : Option JobState) (j : ℕ) (s : Slot C A) (case : Option C) → IsKept fits h now j s → ¬ (now ≡ Some state.Running) → case ≡ s.case → ((c : C) → case ≡ Some c → ⊥) → ⊥
  case_there h now j s case k n is none = there s.case k.case (λ c e. none c (is ∙ e)) where
    there : (o : Option C) → MatchOption o (now ≡ Some state.Running) (λ (c : C). (c ≡ s.kept.value) × ¬ (now ≡ Some state.Running)) → ((c : C) → o ≡ Some c → ⊥) → ⊥
    there None f g = n f
    there (Some c) f g = g c refl

  pub case_is : (h : List (Event C A)) (now : Option JobState) (j : ℕ) (s : Slot C A) (c : C) → IsKept fits h now j s → s.case ≡ Some c → (c ≡ s.kept.value) × Has h (Submits j c)
  case_is h now j s c k is = let same : c ≡ s.kept.value = (subst (λ (o : Option C). MatchOption o (now ≡ Some state.Running) (λ (x : C). (x ≡ s.kept.value) × ¬ (now ≡ Some state.Running))) is k.case).0 in
      (same, subst (λ (x : C). Has h (Submits j x)) (sym same) k.submitted)

  pub taken_slot : (capacity : ℕ) (jobs : ℕ × List JobState) (h : List (Event C A)) (slots : List (Slot C A)) (j : ℕ) (slot : Slot C A) → IsTable fits capacity jobs h slots → is_step jobs.0 jobs.1 (entry.Take j) ≡ true → slot ≡ get_or slots j slot
      → IsKept fits h (Some state.Queued) j slot × ¬ (Some state.Queued ≡ Some state.Running)
  taken_slot capacity jobs h slots j slot t can at = ((slot_kept capacity jobs h slots j slot state.Queued t (take_queued capacity (jobs_of h) j (can_of capacity jobs h (entry.Take j) t.jobs_are can)) at).1, (λ e. cc))

  pub taken : (capacity : ℕ) (jobs jobs' : ℕ × List JobState) (h h' : List (Event C A)) (slots : List (Slot C A)) (j : ℕ) (slot slot' : Slot C A) → IsTable fits capacity jobs h slots
      → is_step jobs.0 jobs.1 (entry.Take j) ≡ true → jobs' ≡ (jobs.0, after jobs.1 (entry.Take j)) → h' ≡ h ++ Take j ∷ [] → slot ≡ get_or slots j slot → slot' ≡ record slot { case = None }
      → IsTable fits capacity jobs' h' (set slots j slot')
  taken capacity jobs jobs' h h' slots j slot slot' t can now grown at is = let q = take_queued capacity (jobs_of h) j (can_of capacity jobs h (entry.Take j) t.jobs_are can) in
      let k = slot_kept capacity jobs h slots j slot state.Queued t q at in
      set_one capacity jobs jobs' h h' (Take j) slots (set slots j slot') j state.Running t can now (λ l. refl) (get_within (jobs_of h) state.Queued j q) grown (length-set slots j slot') (λ i no. get_set_else slots j i slot' no)
      (λ (r : Slot C A) (found : slice_get (set slots j slot') j ≡ Some r). subst (λ (z : Slot C A). IsKept fits (h ++ Take j ∷ []) (Some state.Running) j z) (sym is ∙ some_eq slot' r (sym (get_set_same slots j slot' k.0) ∙ found))
      (running_slot (h ++ Take j ∷ []) j slot (kept_longer h (Take j ∷ []) (Some state.Queued) j slot k.1)))

  -- a history of steps submits a job with one case
  pub one_case : (capacity : ℕ) (h : List (Event C A)) (j : ℕ) (c d : C) → are_steps capacity [] (entries_of h) ≡ true → Has h (Submits j c) → Has h (Submits j d) → c ≡ d
  one_case capacity h j c d ok a b = let x : Snapshot C = a.1.0 in let y : Snapshot C = b.1.0 in
      let p : slice_get h a.2.0 ≡ Some (Submit j x) = a.2.1 ∙ ap (λ (e : Event C A). Some e) a.1.1 in
      let q : slice_get h b.2.0 ≡ Some (Submit j y) = b.2.1 ∙ ap (λ (e : Event C A). Some e) b.1.1 in
      let same = submit_once capacity [] (entries_of h) a.2.0 b.2.0 j ok (get_map entry_of h a.2.0 (Submit j x) p) (get_map entry_of h b.2.0 (Submit j y) q) in
      let one : x ≡ y = one_kept j x y (some_eq (Submit j x) (Submit j y) (sym p ∙ ap (slice_get h) same ∙ q)) in
      sym a.1.2 ∙ ap (λ (z : Snapshot C). z.value) one ∙ b.1.2 where
        one_kept : (j : ℕ) (x y : Snapshot C) → ◌≡◌ {A = Event C A} (Submit j x) (Submit j y) → x ≡ y
        one_kept j x y e = cc

  pub finished : (capacity : ℕ) (jobs jobs' : ℕ × List JobState) (h h' : List (Event C A)) (slots : List (Slot C A)) (j : ℕ) (x : Snapshot (Outcome A)) (case : C) (outcome : Outcome A) (slot slot' : Slot C A) → IsTable fits capacity jobs h slots
      → is_step jobs.0 jobs.1 (entry.Finish j) ≡ true → jobs' ≡ (jobs.0, after jobs.1 (entry.Finish j)) → h' ≡ h ++ Finish j x ∷ [] → slot ≡ get_or slots j slot → slot' ≡ record slot { case = Some case; outcome = Some outcome }
      → x.value ≡ outcome → Has h (Submits j case) → OutcomeFits fits outcome case → IsTable fits capacity jobs' h' (set slots j slot')
  finished capacity jobs jobs' h h' slots j x case outcome slot slot' t can now grown at is xv has f = let e : Event C A = Finish j x in
      let q = finish_running capacity (jobs_of h) j (can_of capacity jobs h (entry.Finish j) t.jobs_are can) in
      let k = slot_kept capacity jobs h slots j slot state.Running t q at in
      let same : case ≡ slot.kept.value = one_case capacity h j case slot.kept.value t.steps has k.1.submitted in
      set_one capacity jobs jobs' h h' e slots (set slots j slot') j state.Done t can now (λ l. refl) (get_within (jobs_of h) state.Running j q) grown (length-set slots j slot') (λ i no. get_set_else slots j i slot' no)
      (λ (r : Slot C A) (found : slice_get (set slots j slot') j ≡ Some r). subst (λ (z : Slot C A). IsKept fits (h ++ e ∷ []) (Some state.Done) j z) (sym is ∙ some_eq slot' r (sym (get_set_same slots j slot' k.0) ∙ found))
      (done_slot (h ++ e ∷ []) (Some state.Running) j slot case outcome (kept_longer h (e ∷ []) (Some state.Running) j slot k.1) (has_last h e (Finishes j outcome) (x, refl, xv)) f same))

  pub withdrawn : (capacity : ℕ) (jobs jobs' : ℕ × List JobState) (h h' : List (Event C A)) (slots : List (Slot C A)) (j : ℕ) → IsTable fits capacity jobs h slots
      → is_step jobs.0 jobs.1 (entry.Withdraw j) ≡ true → jobs' ≡ (jobs.0, after jobs.1 (entry.Withdraw j)) → h' ≡ h ++ Withdraw j ∷ [] → IsTable fits capacity jobs' h' slots
  withdrawn capacity jobs jobs' h h' slots j t can now grown = let e : Event C A = Withdraw j in
      let q = withdraw_queued capacity (jobs_of h) j (can_of capacity jobs h (entry.Withdraw j) t.jobs_are can) in
      set_one capacity jobs jobs' h h' e slots slots j state.Withdrawn t can now (λ l. refl) (get_within (jobs_of h) state.Queued j q) grown refl (λ i no. refl)
      (λ (r : Slot C A) (found : slice_get slots j ≡ Some r). withdrawn_slot (h ++ e ∷ []) j r (kept_longer h (e ∷ []) (Some state.Queued) j r (subst (λ (o : Option JobState). IsKept fits h o j r) q (t.kept j r found))))

  -- a history of steps ends a job with one outcome
  pub one_outcome : (capacity : ℕ) (h : List (Event C A)) (j : ℕ) (o other : Outcome A) → are_steps capacity [] (entries_of h) ≡ true → Has h (Finishes j o) → Has h (Finishes j other) → other ≡ o
  one_outcome capacity h j o other ok a b = let x : Snapshot (Outcome A) = a.1.0 in let y : Snapshot (Outcome A) = b.1.0 in
      let p : slice_get h a.2.0 ≡ Some (Finish j x) = a.2.1 ∙ ap (λ (e : Event C A). Some e) a.1.1 in
      let q : slice_get h b.2.0 ≡ Some (Finish j y) = b.2.1 ∙ ap (λ (e : Event C A). Some e) b.1.1 in
      let same = finish_once capacity [] (entries_of h) b.2.0 a.2.0 j ok (get_map entry_of h b.2.0 (Finish j y) q) (get_map entry_of h a.2.0 (Finish j x) p) in
      let one : y ≡ x = one_end j y x (some_eq (Finish j y) (Finish j x) (sym q ∙ ap (slice_get h) same ∙ p)) in
      sym b.1.2 ∙ ap (λ (z : Snapshot (Outcome A)). z.value) one ∙ a.1.2 where
        one_end : (j : ℕ) (x y : Snapshot (Outcome A)) → ◌≡◌ {A = Event C A} (Finish j x) (Finish j y) → x ≡ y
        one_end j x y e = cc

  -- a job that is done has its outcome
  pub outcome_there : (capacity : ℕ) (jobs : ℕ × List JobState) (h : List (Event C A)) (slots : List (Slot C A)) (j : ℕ) (slot : Slot C A) → IsTable fits capacity jobs h slots → slice_get jobs.1 j ≡ Some state.Done → slot ≡ get_or slots j slot → slot.outcome ≡ None → ⊥
  outcome_there capacity jobs h slots j slot t done at none = let d : slice_get (jobs_of h) j ≡ Some state.Done = ap (λ (z : ℕ × List JobState). slice_get z.1 j) (sym t.jobs_are) ∙ done in
      let k = slot_kept capacity jobs h slots j slot state.Done t d at in
      let no : ¬ (Some state.Done ≡ Some state.Done) = subst (λ (o : Option (Outcome A)). MatchOption o (¬ (Some state.Done ≡ Some state.Done)) (λ (o : Outcome A). (Some state.Done ≡ Some state.Done) × Has h (Finishes j o) × OutcomeFits fits o slot.kept.value)) none k.1.outcome in
      no refl

  -- what is kept of a done job is its outcome
  kept_outcome : (capacity : ℕ) (h : List (Event C A)) (j : ℕ) (s : Slot C A) (o : Outcome A) → are_steps capacity [] (entries_of h) ≡ true → slice_get (jobs_of h) j ≡ Some state.Done → IsKept fits h (Some state.Done) j s → s.outcome ≡ Some o → IsOutcome fits h j o
  kept_outcome capacity h j s o ok done k some =
      let all : (Some state.Done ≡ Some state.Done) × Has h (Finishes j o) × OutcomeFits fits o s.kept.value =
      subst (λ (o : Option (Outcome A)). MatchOption o (¬ (Some state.Done ≡ Some state.Done)) (λ (o : Outcome A). (Some state.Done ≡ Some state.Done) × Has h (Finishes j o) × OutcomeFits fits o s.kept.value)) some k.outcome in
      record { done = done; finished = all.1; only = λ other f. one_outcome capacity h j o other ok all.1 f; suits = λ c f. subst (OutcomeFits fits o) (sym (one_case capacity h j c s.kept.value ok f k.submitted)) all.2 }

  pub outcome_is : (capacity : ℕ) (jobs : ℕ × List JobState) (h h' : List (Event C A)) (slots : List (Slot C A)) (j : ℕ) (slot : Slot C A) (o : Outcome A) → IsTable fits capacity jobs h slots → slice_get jobs.1 j ≡ Some state.Done → slot ≡ get_or slots j slot → slot.outcome ≡ Some o → h ≡ h' → IsOutcome fits h' j o
  outcome_is capacity jobs h h' slots j slot o t done at some same = let d : slice_get (jobs_of h) j ≡ Some state.Done = ap (λ (z : ℕ × List JobState). slice_get z.1 j) (sym t.jobs_are) ∙ done in
      let k = slot_kept capacity jobs h slots j slot state.Done t d at in
      subst (λ (l : List (Event C A)). IsOutcome fits l j o) same (kept_outcome capacity h j slot o t.steps d k.1 some)

  -- a job that doesn't run can end
  can_end : (h : List (Event C A)) (now : JobState) (j : ℕ) (s : Slot C A) → IsKept fits h (Some now) j s → ¬ (now ≡ state.Running) → CanEnd now s
  can_end h now j s k n = record { case = there s.case k.case; outcome = λ is. ended s.outcome k.outcome is; ended = n } where
    there : (o : Option C) → MatchOption o (Some now ≡ Some state.Running) (λ (c : C). (c ≡ s.kept.value) × ¬ (Some now ≡ Some state.Running)) → (c : C) × (o ≡ Some c)
    there None f = absurd (n (some_eq now state.Running f))
    there (Some c) f = (c, refl)

    ended : (o : Option (Outcome A)) → MatchOption o (¬ (Some now ≡ Some state.Done)) (λ (o : Outcome A). (Some now ≡ Some state.Done) × Has h (Finishes j o) × OutcomeFits fits o s.kept.value) → now ≡ state.Done → (x : Outcome A) × (o ≡ Some x)
    ended None f is = absurd (f (ap (λ (x : JobState). Some x) is))
    ended (Some x) f is = (x, refl)

  pub all_can_end : (capacity : ℕ) (jobs : ℕ × List JobState) (h : List (Event C A)) (slots : List (Slot C A)) → IsTable fits capacity jobs h slots → NoneRunning h → AllCanEnd jobs.1 slots
  all_can_end capacity jobs h slots t none j now s at here = let d : slice_get (jobs_of h) j ≡ Some now = ap (λ (z : ℕ × List JobState). slice_get z.1 j) (sym t.jobs_are) ∙ at in
      can_end h now j s (subst (λ (o : Option JobState). IsKept fits h o j s) d (t.kept j s here)) (λ is. none j (d ∙ ap (λ (x : JobState). Some x) is))

  seen_end : (capacity : ℕ) (h : List (Event C A)) (now : JobState) (j : ℕ) (s : Slot C A) (x : Seen A) → are_steps capacity [] (entries_of h) ≡ true → slice_get (jobs_of h) j ≡ Some now → IsKept fits h (Some now) j s → IsEnd now s.outcome x → IsSeen fits h j x
  seen_end capacity h now j s Queued ok at k e = at ∙ ap (λ (x : JobState). Some x) e
  seen_end capacity h now j s Running ok at k e = at ∙ ap (λ (x : JobState). Some x) e
  seen_end capacity h now j s Withdrawn ok at k e = at ∙ ap (λ (x : JobState). Some x) e
  seen_end capacity h now j s (Done o) ok at k e = let is : Some now ≡ Some state.Done = ap (λ (x : JobState). Some x) e.0 in kept_outcome capacity h j s o ok (at ∙ is) (subst (λ (z : Option JobState). IsKept fits h z j s) is k) e.1

  pub are_ends : (capacity : ℕ) (jobs : ℕ × List JobState) (h : List (Event C A)) (slots : List (Slot C A)) (all : List (C × Seen A)) → IsTable fits capacity jobs h slots → HaveEnded jobs.1 slots all → AreEnds fits h all
  are_ends capacity jobs h slots all t f = record { as_many = f.as_many ∙ t.as_many; each = each } where
    each : (j : ℕ) (end : C × Seen A) → slice_get all j ≡ Some end → Has h (Submits j end.0) × IsSeen fits h j end.1
    each j end at = let low = get_within all end j at in let many = f.as_many in let same = t.as_many in
        let s : Slot C A = get_or slots j (default j end at) in let now : JobState = get_or (jobs_of h) j state.Queued in
        let here : slice_get slots j ≡ Some s = some_here slots j (default j end at) (omega arith) in
        let is : slice_get (jobs_of h) j ≡ Some now = some_here (jobs_of h) j state.Queued (omega arith) in
        let e = f.each j now s end (ap (λ (z : ℕ × List JobState). slice_get z.1 j) t.jobs_are ∙ is) here at in
        let k = t.kept j s here in
        ((case_is h (slice_get (jobs_of h) j) j s end.0 k e.case).1, seen_end capacity h now j s end.1 t.steps is (subst (λ (o : Option JobState). IsKept fits h o j s) is k) e.seen) where
          default : (j : ℕ) (end : C × Seen A) → slice_get all j ≡ Some end → Slot C A
          default j end at = first slots (omega (arith, get_within all end j at, f.as_many)) where
            first : (l : List (Slot C A)) → 0 < length l → Slot C A
            first [] low = absurd (omega arith)
            first (s ∷ l) low = s

pub at_middle : {X : Type 0} (xs : List X) (x : X) (ys zs : List X) → xs ++ x ∷ ys ≡ zs → slice_get zs (length xs) ≡ Some x
at_middle xs x ys zs is = ap (λ (l : List _). slice_get l (length xs)) (sym is) ∙ middle xs x ys where
  middle : {X : Type 0} (xs : List X) (x : X) (ys : List X) → slice_get (xs ++ x ∷ ys) (length xs) ≡ Some x
  middle [] x ys = refl
  middle (z ∷ xs) x ys = middle xs x ys

module _ {C A : Type 0} where
  -- one job more has ended
  pub ended_more : (jobs : List JobState) (slots : List (Slot C A)) (ends : List (C × Seen A)) (now : JobState) (s : Slot C A) (end : C × Seen A) → HaveEnded jobs slots ends → slice_get jobs (length slots) ≡ Some now → s.case ≡ Some end.0 → IsEnd now s.outcome end.1
      → HaveEnded jobs (slots ++ s ∷ []) (ends ++ end ∷ [])
  ended_more jobs slots ends now s end f at case seen = record { as_many = let a = length-append slots (s ∷ []) in let b = length-append ends (end ∷ []) in let m = f.as_many in omega arith; each = each } where
    each : (j : ℕ) (now' : JobState) (r : Slot C A) (x : C × Seen A) → slice_get jobs j ≡ Some now' → slice_get (slots ++ s ∷ []) j ≡ Some r → slice_get (ends ++ end ∷ []) j ≡ Some x → HasEnded now' r x
    each j now' r x a b d = let m = f.as_many in dite (ℕ_discrete j (length slots))
        (λ (is : j ≡ length slots).
        let one : now ≡ now' = some_eq now now' (sym at ∙ ap (slice_get jobs) (sym is) ∙ a) in
        let two : s ≡ r = some_eq s r (sym (get_last slots s) ∙ ap (slice_get (slots ++ s ∷ [])) (sym is) ∙ b) in
        let three : end ≡ x = some_eq end x (sym (get_last ends end) ∙ ap (slice_get (ends ++ end ∷ [])) (m ∙ sym is) ∙ d) in
        subst (λ (z : JobState × Slot C A × (C × Seen A)). HasEnded z.0 z.1 z.2) (λ k. (one k, two k, three k)) record { case = case; seen = seen })
        (λ (no : j ≢ length slots). f.each j now' r x a (sym (get_snoc_else slots j s no) ∙ b) (sym (get_snoc_else ends j end (λ e. no (e ∙ m))) ∙ d))

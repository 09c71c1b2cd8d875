-- What a thread submits is in the history, since the table has capacity for all jobs of the script.
use Rattle.std.proofs.Common.{◌≡◌, ◌≢◌, inl, inr, ⊎_elim, ℕ, ◌+◌, ◌<◌, ◌≤◌, true, ltb, List, [], ◌∷◌, ◌++◌, length, Some, sym, refl, ap, ◌∙◌, subst, arith, length-append, append-nil, length-set}
use mathlib.Core.Logic.{dite}
use mathlib.Core.List.{IsPrefix}
use native.Mathlib.Decide.{ℕ_discrete}
use Rattle.std.specs.List.{slice_get}
use Rattle.std.proofs.lemmas.List.{map-append}
use Rattle.std.proofs.lemmas.Bool.Decides.{nat_tests}
use Rattle.tallies.specs.Tallies.{times, once_below}
use Rattle.turn_lock.specs.Lists.{unite, longer, shorter}
use Rattle.job_core.specs.JobMachine.{are_steps, replay}
use Rattle.job_core.specs.declared.entry.JobState.TheVariants as state
use Rattle.job_core.proofs.api.Places.{some_eq, get_within, get_last, get_snoc_else, get_map}
use Rattle.job_core.proofs.api.Runs.{no_fewer_on, submit_below}
use Rattle.job_core.proofs.api.Lasting.{replay_rest}
use Rattle.job_table.specs.declared.event.Event.{Event}
use Rattle.job_table.specs.declared.event.Event.TheVariants.{Submit, Take, Finish, Withdraw}
use Rattle.job_table.specs.declared.event.Outcome.{Outcome}
use Rattle.job_table.specs.History.{entry_of, entries_of, jobs_of, Has, Submits, Finishes}
use Rattle.job_table.specs.Passes.{TableView, PassView, Within, Looks, Adds, IsPassOf, NoneQueued, NoneRunning}
use Rattle.job_table.specs.Slots.{AreEnds}
use Rattle.job_table.specs.declared.slot.Seen.{Seen}
use Rattle.job_table.proofs.api.Kept.{jobs_snoc}
use Rattle.job_table.proofs.api.Counts.{grown, total_none, total_plus, total_stays, last_step}
use Rattle.job_table.proofs.api.Calls.{at_prefix, prefix_more, total_longer, total_more, total_unite, both_begin, seen_longer}
use Rattle.prove_serve.proofs.Sounds.{acts_looks, acts_adds, right_withdraw}
use Rattle.prove_serve.specs.declared.job.Job.{Job}
use Rattle.prove_serve.specs.declared.script.Duty.{Duty}
use Rattle.prove_serve.specs.Script.{AreDealt, jobs_in, thread_of}
use Rattle.prove_serve.specs.Sound.{ActsFor, IsMarked, IsServed, submits, submits_at, submitted_by, Precedes, AreSubmitted, FellShort, HasSubmitted, AreAllSubmitted, HasDone, Offers}

pub prefix_trans : {E : Type 0} (a b c : List E) → IsPrefix a b → IsPrefix b c → IsPrefix a c
prefix_trans a b c p q = subst (IsPrefix a) q.1 (prefix_more a b q.0 p)

pub prefix_same : {E : Type 0} (a b : List E) → b ≡ a → IsPrefix a b
prefix_same a b is = subst (IsPrefix a) (sym is) ([], append-nil a)

jobs_in_snoc : {C : Type 0} (duties : List (Duty C)) (duty : Duty C) → jobs_in (duties ++ duty ∷ []) ≡ jobs_in duties + length duty.jobs.items
jobs_in_snoc [] duty = omega arith
jobs_in_snoc (x ∷ duties) duty = let i = jobs_in_snoc duties duty in omega arith

module _ {C A : Type 0} where
  -- a longer history has no fewer jobs
  pub jobs_longer : (seen h : List (Event (Job C) A)) → IsPrefix seen h → length (jobs_of seen) ≤ length (jobs_of h)
  jobs_longer seen h pre = let cut : jobs_of h ≡ replay (jobs_of seen) (entries_of pre.0) = ap (λ (l : List (Event (Job C) A)). jobs_of l) (sym pre.1) ∙ ap (replay []) (map-append entry_of seen pre.0) ∙ replay_rest [] (entries_of seen) (entries_of pre.0) in
      let more = no_fewer_on 0 (jobs_of seen) (entries_of pre.0) in let same = ap length cut in omega arith

  precedes_longer : (seen h : List (Event (Job C) A)) (a b : Job C) → IsPrefix seen h → Precedes seen a b → Precedes h a b
  precedes_longer seen h a b pre f = (f.0, f.1, f.2, seen_longer h seen (Submits f.0 a) pre f.3, seen_longer h seen (Submits f.1 b) pre f.4)

  pub submitted_longer : (seen h : List (Event (Job C) A)) (jobs : List (Job C)) → IsPrefix seen h → AreSubmitted seen jobs → AreSubmitted h jobs
  submitted_longer seen h jobs pre s = record {
    each = λ i job at. let f = s.each i job at in (f.0, seen_longer h seen (Submits f.0 job) pre f.1);
    in_order = λ i k a b lt at at'. precedes_longer seen h a b pre (s.in_order i k a b lt at at');
  }

  -- ---- how many jobs a pass submits

  pub submits_looks : (old new : PassView (Event (Job C) A)) → Within old.seen old.mine → Looks old new → submitted_by new ≡ submitted_by old
  submits_looks old new w l = ap (λ (m : List ℕ). submits_at new.seen m) (ap (λ (v : PassView (Event (Job C) A)). v.mine) l.same) ∙ total_longer submits old.seen new.seen old.mine l.begins w

  pub submits_adds : (old new : PassView (Event (Job C) A)) (says : List (Event (Job C) A) → Event (Job C) A → Type 0) → Within old.seen old.mine → (a : Adds old says new) → submitted_by new ≡ submitted_by old + submits (Some a.event)
  submits_adds old new says w a = ap (λ (z : List (Event (Job C) A) × List ℕ). submits_at z.0 z.1) (λ k. (a.seen k, a.mine k)) ∙ total_more submits old.seen a.before a.event old.mine a.begins w

  pub adds_begins : (old new : PassView (Event (Job C) A)) (says : List (Event (Job C) A) → Event (Job C) A → Type 0) → (a : Adds old says new) → IsPrefix old.seen new.seen
  adds_begins old new says a = subst (IsPrefix old.seen) (sym a.seen) (prefix_more old.seen a.before (a.event ∷ []) a.begins)

  pub takes_none : (e : Event (Job C) A) (n : ℕ) → e ≡ Take n → submits (Some e) ≡ 0
  takes_none e n is = ap (λ (x : Event (Job C) A). submits (Some x)) is

  pub withdraws_none : (e : Event (Job C) A) (n : ℕ) → e ≡ Withdraw n → submits (Some e) ≡ 0
  withdraws_none e n is = ap (λ (x : Event (Job C) A). submits (Some x)) is

  pub finishes_none : (e : Event (Job C) A) (n : ℕ) (o : Outcome A) → Finishes n o e → submits (Some e) ≡ 0
  finishes_none e n o f = ap (λ (x : Event (Job C) A). submits (Some x)) f.1

  pub submits_one : (e : Event (Job C) A) (n : ℕ) (job : Job C) → Submits n job e → submits (Some e) ≡ 1
  submits_one e n job s = ap (λ (x : Event (Job C) A). submits (Some x)) s.1

  -- where each place is owned, the jobs of the history were all submitted there
  submits_on : (h : List (Event (Job C) A)) (e : Event (Job C) A) (mine : List ℕ) → times (length h) mine ≡ 1 → submits_at h mine ≡ length (jobs_of h) → submits_at (h ++ e ∷ []) mine ≡ length (jobs_of (h ++ e ∷ []))
  submits_on h (Submit n kept) mine own is = let p = total_plus submits refl h (Submit n kept) mine refl in let j = ap length (jobs_snoc h (Submit n kept)) in let l = length-append (jobs_of h) (state.Queued ∷ []) in omega arith
  submits_on h (Take n) mine own is = let p = total_stays submits refl h (Take n) mine refl in let j = ap length (jobs_snoc h (Take n)) in let l = length-set (jobs_of h) n state.Running in omega arith
  submits_on h (Finish n kept) mine own is = let p = total_stays submits refl h (Finish n kept) mine refl in let j = ap length (jobs_snoc h (Finish n kept)) in let l = length-set (jobs_of h) n state.Done in omega arith
  submits_on h (Withdraw n) mine own is = let p = total_stays submits refl h (Withdraw n) mine refl in let j = ap length (jobs_snoc h (Withdraw n)) in let l = length-set (jobs_of h) n state.Withdrawn in omega arith

  submits_all : (h : List (Event (Job C) A)) (mine : List ℕ) → ((p : ℕ) → p < length h → times p mine ≡ 1) → submits_at h mine ≡ length (jobs_of h)
  submits_all h mine = grown (λ (l : List (Event (Job C) A)). ((p : ℕ) → p < length l → times p mine ≡ 1) → submits_at l mine ≡ length (jobs_of l)) h
      (λ own. total_none (λ p. submits {C = C} {A = A} (slice_get [] p)) mine (λ p. refl))
      (λ (xs : List (Event (Job C) A)) (x : Event (Job C) A) f own. let l = length-append xs (x ∷ []) in submits_on xs x mine (own (length xs) (omega arith)) (f (λ p low. own p (omega arith))))

  -- ---- what is submitted stays so

  short_longer : (old new : PassView (Event (Job C) A)) (many : ℕ) → IsPrefix old.seen new.seen → new.capacity ≡ old.capacity → submitted_by new ≡ submitted_by old → FellShort old many → FellShort new many
  short_longer old new many pre cap same f = let more = jobs_longer old.seen new.seen pre in let a = f.0 in let b = f.1 in (omega arith, omega arith)

  pub has_submitted : (old new : PassView (Event (Job C) A)) (jobs : List (Job C)) → IsPrefix old.seen new.seen → new.capacity ≡ old.capacity → submitted_by new ≡ submitted_by old → HasSubmitted old jobs → HasSubmitted new jobs
  has_submitted old new jobs pre cap same s = record {
    few = let f = s.few in omega arith;
    all = ⊎_elim (λ (a : AreSubmitted old.seen jobs). inl (submitted_longer old.seen new.seen jobs pre a)) (λ (f : FellShort old (length jobs)). inr (short_longer old new (length jobs) pre cap same f)) s.all;
  }

  pub has_done : (old new : PassView (Event (Job C) A)) (duties : List (Duty C)) → IsPrefix old.seen new.seen → new.capacity ≡ old.capacity → submitted_by new ≡ submitted_by old → HasDone old duties → HasDone new duties
  has_done old new duties pre cap same s = record {
    few = let f = s.few in omega arith;
    all = ⊎_elim (λ (a : AreAllSubmitted old.seen duties). inl (λ t duty at. submitted_longer old.seen new.seen duty.jobs.items pre (a t duty at))) (λ (f : FellShort old (jobs_in duties)). inr (short_longer old new (jobs_in duties) pre cap same f)) s.all;
  }

  -- no job was asked for, and none submitted
  pub none_submitted : (pass : PassView (Event (Job C) A)) (jobs : List (Job C)) → jobs ≡ [] → submitted_by pass ≡ 0 → HasSubmitted pass jobs
  none_submitted pass jobs is none = subst (HasSubmitted pass) (sym is) (record {
    few = omega arith;
    all = inl (record { each = λ i job at. absurd (no_job i job at); in_order = λ i k a b lt at at'. absurd (no_job i a at) });
  }) where
    no_job : (i : ℕ) (job : Job C) → slice_get [] i ≡ Some job → ⊥
    no_job i job at = let low = get_within [] job i at in omega arith

  -- a job that was submitted has a number below that of the next one
  below_next : (capacity : ℕ) (seen before : List (Event (Job C) A)) (m : ℕ) (other : Job C) → IsPrefix seen before → are_steps capacity [] (entries_of before) ≡ true → Has seen (Submits m other) → m < length (jobs_of before)
  below_next capacity seen before m other pre ok f = let p : ℕ = f.2.0 in let at : slice_get before p ≡ Some (Submit m f.1.0) = at_prefix seen before p (Submit m f.1.0) pre (f.2.1 ∙ ap (λ (x : Event (Job C) A). Some x) f.1.1) in
      submit_below capacity [] (entries_of before) p m ok (get_map entry_of before p (Submit m f.1.0) at)

  pub offers_made : (t : TableView) (old new : PassView (Event (Job C) A)) (job : Job C) (n : ℕ) → IsPassOf t old → IsPassOf t new → (a : Adds old (λ before e. (n ≡ length (jobs_of before)) × Submits n job e) new) → Has new.seen (Submits n job) → Offers job old new
  offers_made t old new job n of of' a has =
      let ok = last_step t.capacity a.before a.event (ap (λ (l : List (Event (Job C) A)). are_steps t.capacity [] (entries_of l)) (sym a.seen) ∙ of'.legal.steps) in
      let one = submits_one a.event n job a.says_so.1 in let sum = submits_adds old new (λ before e. (n ≡ length (jobs_of before)) × Submits n job e) of.legal.within a in record {
        begins = adds_begins old new (λ before e. (n ≡ length (jobs_of before)) × Submits n job e) a;
        capacity = of'.capacity ∙ sym of.capacity;
        answer = inl (n, has, (λ m other f. subst (λ (x : ℕ). m < x) (sym a.says_so.0) (below_next t.capacity old.seen a.before m other a.begins ok.0 f)), omega arith);
      }

  pub offers_full : (t : TableView) (old new : PassView (Event (Job C) A)) (job : Job C) → IsPassOf t old → IsPassOf t new → Looks old new → length (jobs_of new.seen) ≡ t.capacity → Offers job old new
  offers_full t old new job of of' l full = record {
    begins = l.begins;
    capacity = of'.capacity ∙ sym of.capacity;
    answer = inr (let c = of'.capacity in omega arith, submits_looks old new of.legal.within l);
  }

  -- a job that was withdrawn, or was found to be past that
  pub withdrew : (script : List (Job C)) (old new : PassView (Event (Job C) A)) (n : ℕ) (says : List (Event (Job C) A) → Event (Job C) A → Type 0) → Within old.seen old.mine → IsMarked old.seen n → ActsFor script old
      → (a : Adds old says new) → a.event ≡ Withdraw n → ActsFor script new × (submitted_by new ≡ submitted_by old) × (new.shares ≡ old.shares)
  withdrew script old new n says w m acts a is = (
    acts_adds script old new says w a (right_withdraw script old.seen new.seen a.event n (adds_begins old new says a) m is) acts,
    let one = submits_adds old new says w a in let x = withdraws_none a.event n is in omega arith,
    a.same.1,
  )

  pub was_late : (script : List (Job C)) (old new : PassView (Event (Job C) A)) → Within old.seen old.mine → ActsFor script old → Looks old new → ActsFor script new × (submitted_by new ≡ submitted_by old) × (new.shares ≡ old.shares)
  was_late script old new w acts l = (acts_looks script old new w l acts, submits_looks old new w l, ap (λ (v : PassView (Event (Job C) A)). v.shares) l.same)

  -- one job more
  pub submitted_more : (old new : PassView (Event (Job C) A)) (front : List (Job C)) (job : Job C) → HasSubmitted old front → Offers job old new → HasSubmitted new (front ++ job ∷ [])
  submitted_more old new front job s o = let long = length-append front (job ∷ []) in let few = s.few in record {
    few = ⊎_elim
        (λ (f : (n : ℕ) × Has new.seen (Submits n job) × ((m : ℕ) (other : Job C) → Has old.seen (Submits m other) → m < n) × (submitted_by new ≡ submitted_by old + 1)). let e = f.3 in omega arith)
        (λ (f : (new.capacity ≤ length (jobs_of new.seen)) × (submitted_by new ≡ submitted_by old)). let e = f.1 in omega arith) o.answer;
    all = ⊎_elim
        (λ (f : (n : ℕ) × Has new.seen (Submits n job) × ((m : ℕ) (other : Job C) → Has old.seen (Submits m other) → m < n) × (submitted_by new ≡ submitted_by old + 1)).
        ⊎_elim (λ (a : AreSubmitted old.seen front). inl (with_one a f.0 f.1 f.2))
        (λ (short : FellShort old (length front)). let more = jobs_longer old.seen new.seen o.begins in let c = o.capacity in let x = short.0 in let y = short.1 in let e = f.3 in inr (omega arith, omega arith)) s.all)
        (λ (f : (new.capacity ≤ length (jobs_of new.seen)) × (submitted_by new ≡ submitted_by old)). let e = f.1 in inr (f.0, omega arith)) o.answer;
  } where
    with_one : AreSubmitted old.seen front → (n : ℕ) → Has new.seen (Submits n job) → ((m : ℕ) (other : Job C) → Has old.seen (Submits m other) → m < n) → AreSubmitted new.seen (front ++ job ∷ [])
    with_one a n has above = let kept = submitted_longer old.seen new.seen front o.begins a in record {
      each = λ i x at. dite (ℕ_discrete i (length front))
          (λ (is : i ≡ length front). (n, subst (λ (y : Job C). Has new.seen (Submits n y)) (some_eq job x (sym (get_last front job) ∙ ap (slice_get (front ++ job ∷ [])) (sym is) ∙ at)) has))
          (λ (no : i ≢ length front). kept.each i x (sym (get_snoc_else front i job no) ∙ at));
      in_order = λ i k x y lt at at'. let l = length-append front (job ∷ []) in let low' = get_within (front ++ job ∷ []) y k at' in let before : i ≢ length front = λ is. absurd (omega arith) in
          let at0 : slice_get front i ≡ Some x = sym (get_snoc_else front i job before) ∙ at in
          dite (ℕ_discrete k (length front))
          (λ (is : k ≡ length front). let old' = a.each i x at0 in
          (old'.0, n, above old'.0 x old'.1, seen_longer new.seen old.seen (Submits old'.0 x) o.begins old'.1, subst (λ (z : Job C). Has new.seen (Submits n z)) (some_eq job y (sym (get_last front job) ∙ ap (slice_get (front ++ job ∷ [])) (sym is) ∙ at')) has))
          (λ (no : k ≢ length front). kept.in_order i k x y lt at0 (sym (get_snoc_else front k job no) ∙ at'));
    }

  -- one duty more
  all_more : (seen : List (Event (Job C) A)) (duties : List (Duty C)) (duty : Duty C) → AreAllSubmitted seen duties → AreSubmitted seen duty.jobs.items → AreAllSubmitted seen (duties ++ duty ∷ [])
  all_more seen duties duty f s t d at = dite (ℕ_discrete t (length duties))
      (λ (is : t ≡ length duties). subst (λ (x : Duty C). AreSubmitted seen x.jobs.items) (some_eq duty d (sym (get_last duties duty) ∙ ap (slice_get (duties ++ duty ∷ [])) (sym is) ∙ at)) s)
      (λ (no : t ≢ length duties). f t d (sym (get_snoc_else duties t duty no) ∙ at))

  -- the only duty
  pub one_done : (pass : PassView (Event (Job C) A)) (all duties : List (Duty C)) (duty : Duty C) → length duties ≡ 0 → all ≡ duties ++ duty ∷ [] → HasSubmitted pass duty.jobs.items → HasDone pass all
  one_done pass all [] duty none is s = subst (HasDone pass) (sym is) (record {
    few = let f = s.few in omega arith;
    all = ⊎_elim (λ (a : AreSubmitted pass.seen duty.jobs.items). inl (all_more pass.seen [] duty (λ t d at. absurd (no_duty t d at)) a))
        (λ (f : FellShort pass (length duty.jobs.items)). let x = f.1 in inr (f.0, omega arith)) s.all;
  }) where
    no_duty : (t : ℕ) (d : Duty C) → slice_get [] t ≡ Some d → ⊥
    no_duty t d at = let low = get_within [] d t at in omega arith
  one_done pass all (x ∷ duties) duty none is s = absurd (omega arith)

  -- two passes joined
  pub done_joins : (a b new : PassView (Event (Job C) A)) (all duties : List (Duty C)) (duty : Duty C) → Within a.seen a.mine → Within b.seen b.mine → IsPrefix (shorter a.seen b.seen) (longer a.seen b.seen) → a.capacity ≡ b.capacity
      → new ≡ record a { shares = a.shares + b.shares; seen = longer a.seen b.seen; mine = unite a.mine b.mine } → all ≡ duties ++ duty ∷ [] → HasDone a duties → HasSubmitted b duty.jobs.items → HasDone new all
  done_joins a b new all duties duty w w' begins cap is are d s = subst (λ (z : PassView (Event (Job C) A) × List (Duty C)). HasDone z.0 z.1) (λ k. (sym is k, sym are k)) joined where
    both : IsPrefix a.seen (longer a.seen b.seen) × IsPrefix b.seen (longer a.seen b.seen)
    both = both_begin a.seen b.seen (ltb (length a.seen) (length b.seen)) begins

    sum : submits_at (longer a.seen b.seen) (unite a.mine b.mine) ≡ submitted_by a + submitted_by b
    sum = let u = total_unite (λ (p : ℕ). submits (slice_get (longer a.seen b.seen) p)) a.mine b.mine in let x = total_longer submits a.seen (longer a.seen b.seen) a.mine both.0 w in let y = total_longer submits b.seen (longer a.seen b.seen) b.mine both.1 w' in omega arith

    many : jobs_in (duties ++ duty ∷ []) ≡ jobs_in duties + length duty.jobs.items
    many = jobs_in_snoc duties duty

    joined : HasDone (record a { shares = a.shares + b.shares; seen = (longer a.seen b.seen); mine = unite a.mine b.mine }) (duties ++ duty ∷ [])
    joined = let f = d.few in let g = s.few in record {
      few = omega (arith, sum, many);
      all = ⊎_elim
          (λ (x : AreAllSubmitted a.seen duties).
          ⊎_elim (λ (y : AreSubmitted b.seen duty.jobs.items). inl (all_more (longer a.seen b.seen) duties duty (λ t e at. submitted_longer a.seen (longer a.seen b.seen) e.jobs.items both.0 (x t e at)) (submitted_longer b.seen (longer a.seen b.seen) duty.jobs.items both.1 y)))
          (λ (y : FellShort b (length duty.jobs.items)). let more = jobs_longer b.seen (longer a.seen b.seen) both.1 in let p = y.0 in let q = y.1 in inr (omega arith, omega (arith, sum, many))) s.all)
          (λ (x : FellShort a (jobs_in duties)). let more = jobs_longer a.seen (longer a.seen b.seen) both.0 in let p = x.0 in let q = x.1 in inr (omega arith, omega (arith, sum, many))) d.all;
    }

  -- Where all places are owned and the table has capacity for the script, each of its jobs was submitted.
  pub all_done : (pass : PassView (Event (Job C) A)) (clients : ℕ) (script : List (Job C)) (duties : List (Duty C)) → ((x : ℕ) → times x pass.mine ≡ once_below x (length pass.seen)) → length script ≤ pass.capacity → AreDealt clients script duties → HasDone pass duties
      → (length (jobs_of pass.seen) ≤ length script) × AreAllSubmitted pass.seen duties
  all_done pass clients script duties own room dealt d = (
    let f = d.few in omega (arith, sum, dealt.count),
    ⊎_elim (λ (a : AreAllSubmitted pass.seen duties). a) (λ (f : FellShort pass (jobs_in duties)). let x = f.0 in let y = f.1 in absurd (omega (arith, sum, dealt.count))) d.all,
  ) where
    below : (x n : ℕ) → x < n → once_below x n ≡ 1
    below x n low = grind (arith, nat_tests)

    sum : submitted_by pass ≡ length (jobs_of pass.seen)
    sum = submits_all pass.seen pass.mine (λ p low. own p ∙ below p (length pass.seen) low)

  pub each_submitted : (seen : List (Event (Job C) A)) (clients : ℕ) (script : List (Job C)) (duties : List (Duty C)) → AreDealt clients script duties → AreAllSubmitted seen duties → (k : ℕ) (job : Job C) → slice_get script k ≡ Some job → (n : ℕ) × Has seen (Submits n job)
  each_submitted seen clients script duties dealt all k job at = let f = dealt.each k job at in (all (thread_of clients job.client) f.0 f.2).each f.1 job f.3

  pub submitted_in_order : (seen : List (Event (Job C) A)) (clients : ℕ) (script : List (Job C)) (duties : List (Duty C)) → AreDealt clients script duties → AreAllSubmitted seen duties → (k l : ℕ) (a b : Job C) → k < l → slice_get script k ≡ Some a → slice_get script l ≡ Some b → a.client ≡ b.client → Precedes seen a b
  submitted_in_order seen clients script duties dealt all k l a b lt at at' same = let f = dealt.in_order k l a b lt at at' same in (all (thread_of clients a.client) f.0 f.4).in_order f.1 f.2 a b f.3 f.5 f.6

module _ {C A : Type 0} (fits : A → Job C → Type 0) where
  -- the whole pass knows of all jobs
  pub served : (script : List (Job C)) (pass : PassView (Event (Job C) A)) (history : List (Event (Job C) A)) (jobs : List (Job C × Seen A)) (clients : ℕ) (duties : List (Duty C)) → history ≡ pass.seen → (capacity : ℕ) → are_steps capacity [] (entries_of pass.seen) ≡ true → AreEnds fits pass.seen jobs → ActsFor script pass
      → ((x : ℕ) → times x pass.mine ≡ once_below x (length pass.seen)) → length script ≤ pass.capacity → AreDealt clients script duties → HasDone pass duties → NoneQueued pass.seen → NoneRunning pass.seen → IsServed fits script history jobs
  served script pass history jobs clients duties is capacity steps ends acts own room dealt done drained ended = let all = all_done pass clients script duties own room dealt done in subst (λ (h : List (Event (Job C) A)). IsServed fits script h jobs) (sym is) record {
    steps = (capacity, steps);
    ends = ends;
    right = λ p e at. acts p e at (let low = get_within pass.seen e p at in let a = own p in let b = below p (length pass.seen) low in omega arith);
    few = all.0;
    each = each_submitted pass.seen clients script duties dealt all.1;
    in_order = submitted_in_order pass.seen clients script duties dealt all.1;
    drained = drained;
    ended = ended;
  } where
    below : (x n : ℕ) → x < n → once_below x n ≡ 1
    below x n low = grind (arith, nat_tests)

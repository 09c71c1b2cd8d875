-- Numbering, dealing and placing, one job more at a time.
use Rattle.std.proofs.Common.{◌≡◌, ◌≢◌, ◌⊎◌, inl, inr, ⊎_elim, ℕ, zero, suc, ◌+◌, ◌<◌, ◌≤◌, Bool, List, [], ◌∷◌, ◌++◌, length, set, Some, sym, refl, ap, ◌∙◌, subst, arith, length-append}
use mathlib.Core.Logic.{dite}
use native.Mathlib.Decide.{ℕ_discrete}
use Rattle.std.specs.List.{slice_get}
use Rattle.job_core.proofs.api.Places.{some_eq, get_longer, get_last, get_snoc_else, get_set_same, get_set_else, get_within}
use Rattle.job_table.specs.declared.event.Outcome.{Outcome}
use Rattle.job_table.specs.declared.slot.Seen.{Seen}
use Rattle.job_table.specs.declared.slot.Seen.TheVariants.{Done}
use Rattle.prove_serve.specs.declared.job.Job.{Job}
use Rattle.prove_serve.specs.declared.job.Reply.{Reply}
use Rattle.std.specs.Prelude.{vec_len, vec_capacity}
use Rattle.prove_serve.specs.declared.script.Duty.{Duty}
use Rattle.prove_serve.specs.declared.outcome.HistoryOutcome.{HistoryOutcome}
use Rattle.prove_serve.specs.Script.{IsOf, AreOf, AreNumbered, IsDuty, AreDuties, AreDealt, IsIn, AreInOrder, jobs_in, thread_of, ArePlaced, IsPut, plain}
use Rattle.prove_serve.specs.Reported.{AreReported, reported}

module _ {C : Type 0} where
  pub numbered_more : (jobs : List (ℕ × C × Bool)) (script : List (Job C)) (x : ℕ × C × Bool) (job : Job C) → AreNumbered jobs script → job.place ≡ length jobs → x ≡ (job.client, job.case, job.marked) → AreNumbered (jobs ++ x ∷ []) (script ++ job ∷ [])
  numbered_more jobs script x job f at is = record { as_many = let a = length-append jobs (x ∷ []) in let b = length-append script (job ∷ []) in let m = f.as_many in omega arith; each = each } where
    each : (k : ℕ) (y : Job C) → slice_get (script ++ job ∷ []) k ≡ Some y → (y.place ≡ k) × (slice_get (jobs ++ x ∷ []) k ≡ Some (y.client, y.case, y.marked))
    each k y e = dite (ℕ_discrete k (length script))
        (λ (here : k ≡ length script).
        let one : job ≡ y = some_eq job y (sym (get_last script job) ∙ ap (slice_get (script ++ job ∷ [])) (sym here) ∙ e) in
        let same : k ≡ length jobs = here ∙ f.as_many in (
          ap (λ (z : Job C). z.place) (sym one) ∙ at ∙ sym same,
          ap (slice_get (jobs ++ x ∷ [])) same ∙ get_last jobs x ∙ ap (λ (z : ℕ × C × Bool). Some z) (is ∙ ap (λ (z : Job C). (z.client, z.case, z.marked)) one),
        ))
        (λ (no : k ≢ length script). let old = f.each k y (sym (get_snoc_else script k job no) ∙ e) in (old.0, get_longer jobs (x ∷ []) k (y.client, y.case, y.marked) old.1))

  pub of_more : (script jobs : List (Job C)) (job : Job C) → AreOf script jobs → IsOf script job → AreOf script (jobs ++ job ∷ [])
  of_more script jobs job f is k y e = dite (ℕ_discrete k (length jobs)) (λ (here : k ≡ length jobs). subst (IsOf script) (some_eq job y (sym (get_last jobs job) ∙ ap (slice_get (jobs ++ job ∷ [])) (sym here) ∙ e)) is)
      (λ (no : k ≢ length jobs). f k y (sym (get_snoc_else jobs k job no) ∙ e))

  -- ---- dealing

  -- a thread without jobs
  pub idle_duty : (script : List (Job C)) (duty : Duty C) → duty.jobs.items ≡ [] → vec_len duty.receipts ≡ 0 → IsDuty script duty
  idle_duty script duty none empty = record { of = subst (AreOf script) (sym none) (λ k job at. absurd (no_job k job at)); capacity = (empty, let l = ap length none in omega arith) } where
    no_job : (k : ℕ) (job : Job C) → slice_get [] k ≡ Some job → ⊥
    no_job k job at = let low = get_within [] job k at in omega arith

  pub duties_more : (script : List (Job C)) (clients : ℕ) (duties : List (Duty C)) (duty : Duty C) → AreDuties script clients duties → duty.jobs.items ≡ [] → vec_len duty.receipts ≡ 0 → AreDuties script clients (duties ++ duty ∷ [])
  duties_more script clients duties duty f none empty t d e = dite (ℕ_discrete t (length duties))
      (λ (here : t ≡ length duties). subst (λ (x : Duty C). IsDuty script x × (clients ≤ t → x.jobs.items ≡ [])) (some_eq duty d (sym (get_last duties duty) ∙ ap (slice_get (duties ++ duty ∷ [])) (sym here) ∙ e)) (idle_duty script duty none empty, λ far. none))
      (λ (no : t ≢ length duties). f t d (sym (get_snoc_else duties t duty no) ∙ e))

  pub duties_set : (script : List (Job C)) (clients : ℕ) (duties : List (Duty C)) (t : ℕ) (old new : Duty C) (job : Job C) → t < clients → slice_get duties t ≡ Some old → AreDuties script clients duties → IsOf script job → new.jobs.items ≡ old.jobs.items ++ job ∷ []
      → (vec_len new.receipts ≡ 0) × (length new.jobs.items ≤ vec_capacity new.receipts) → AreDuties script clients (set duties t new)
  duties_set script clients duties t old new job low at f of more capacity k d e = dite (ℕ_discrete k t)
      (λ (here : k ≡ t). subst (λ (x : Duty C). IsDuty script x × (clients ≤ k → x.jobs.items ≡ [])) (some_eq new d (sym (get_set_same duties t new (get_within duties old t at)) ∙ ap (slice_get (set duties t new)) (sym here) ∙ e))
      (record { of = subst (AreOf script) (sym more) (of_more script old.jobs.items job (f t old at).0.of of); capacity = capacity }, λ far. absurd (omega arith)))
      (λ (no : k ≢ t). f k d (sym (get_set_else duties t k new no) ∙ e))

  pub jobs_in_more : (duties : List (Duty C)) (duty : Duty C) → duty.jobs.items ≡ [] → jobs_in duties ≡ 0 → jobs_in (duties ++ duty ∷ []) ≡ 0
  jobs_in_more [] duty none empty = let l = ap length none in omega arith
  jobs_in_more (x ∷ duties) duty none empty = let i = jobs_in_more duties duty none (omega arith) in omega arith

  jobs_in_set : (duties : List (Duty C)) (t : ℕ) (old new : Duty C) → slice_get duties t ≡ Some old → jobs_in (set duties t new) + length old.jobs.items ≡ jobs_in duties + length new.jobs.items
  jobs_in_set [] t old new at = absurd (let low = get_within [] old t at in omega arith)
  jobs_in_set (x ∷ duties) zero old new at = let same : length x.jobs.items ≡ length old.jobs.items = ap (λ (d : Duty C). length d.jobs.items) (some_eq x old at) in omega arith
  jobs_in_set (x ∷ duties) (suc t) old new at = let i = jobs_in_set duties t old new at in omega arith

  pub none_dealt : (clients : ℕ) (duties : List (Duty C)) → jobs_in duties ≡ 0 → AreDealt clients [] duties
  none_dealt clients duties none = record { count = none; each = λ k job at. absurd (no_job k job at); in_order = λ k l a b lt at at' same. absurd (no_job k a at) } where
    no_job : (k : ℕ) (job : Job C) → slice_get [] k ≡ Some job → ⊥
    no_job k job at = let low = get_within [] job k at in omega arith

  -- one job more, after those of its thread
  module _ (clients t : ℕ) (front : List (Job C)) (duties : List (Duty C)) (old new : Duty C) (job : Job C) (f : AreDealt clients front duties) (thread : thread_of clients job.client ≡ t) (here : slice_get duties t ≡ Some old) (more : new.jobs.items ≡ old.jobs.items ++ job ∷ []) where
    stands : slice_get (set duties t new) t ≡ Some new
    stands = get_set_same duties t new (get_within duties old t here)

    -- a job of the old duty, at its place in the new one
    still : (i : ℕ) (x : Job C) → slice_get old.jobs.items i ≡ Some x → slice_get new.jobs.items i ≡ Some x
    still i x at = ap (λ (l : List (Job C)). slice_get l i) more ∙ get_longer old.jobs.items (job ∷ []) i x at

    own : slice_get new.jobs.items (length old.jobs.items) ≡ Some job
    own = ap (λ (l : List (Job C)). slice_get l (length old.jobs.items)) more ∙ get_last old.jobs.items job

    -- each duty of before, with what it is now
    now : (g : ℕ) (d : Duty C) → slice_get duties g ≡ Some d → (e : Duty C) × (slice_get (set duties t new) g ≡ Some e) × ((i : ℕ) (x : Job C) → slice_get d.jobs.items i ≡ Some x → slice_get e.jobs.items i ≡ Some x)
    now g d at = dite (ℕ_discrete g t)
        (λ (is : g ≡ t). (new, ap (slice_get (set duties t new)) is ∙ stands, λ i x a. still i x (ap (λ (z : Duty C). slice_get z.jobs.items i) (some_eq old d (sym here ∙ ap (slice_get duties) (sym is) ∙ at)) ∙ a)))
        (λ (no : g ≢ t). (d, get_set_else duties t g new no ∙ at, λ i x a. a))

    kept : (g : ℕ) (x : Job C) → IsIn duties g x → IsIn (set duties t new) g x
    kept g x k = let n = now g k.0 k.2 in (n.0, k.1, n.1, n.2 k.1 x k.3)

    kept_order : (g : ℕ) (x y : Job C) → AreInOrder duties g x y → AreInOrder (set duties t new) g x y
    kept_order g x y k = let n = now g k.0 k.4 in (n.0, k.1, k.2, k.3, n.1, n.2 k.1 x k.5, n.2 k.2 y k.6)

    -- a job of before is before the new one, where both are of one client
    behind : (a : Job C) (g : ℕ) → g ≡ t → IsIn duties g a → AreInOrder (set duties t new) g a job
    behind a g is k = let same : k.0 ≡ old = some_eq k.0 old (sym k.2 ∙ ap (slice_get duties) is ∙ here) in
        let at : slice_get old.jobs.items k.1 ≡ Some a = ap (λ (z : Duty C). slice_get z.jobs.items k.1) (sym same) ∙ k.3 in
        (new, k.1, length old.jobs.items, get_within old.jobs.items a k.1 at, ap (slice_get (set duties t new)) is ∙ stands, still k.1 a at, own)

    last_is : (k : ℕ) (x : Job C) → k ≡ length front → slice_get (front ++ job ∷ []) k ≡ Some x → job ≡ x
    last_is k x is at = some_eq job x (sym (get_last front job) ∙ ap (slice_get (front ++ job ∷ [])) (sym is) ∙ at)

    dealt_each : (k : ℕ) (x : Job C) → slice_get (front ++ job ∷ []) k ≡ Some x → IsIn (set duties t new) (thread_of clients x.client) x
    dealt_each k x at = dite (ℕ_discrete k (length front))
        (λ (is : k ≡ length front). subst (λ (y : Job C). IsIn (set duties t new) (thread_of clients y.client) y) (last_is k x is at) (new, length old.jobs.items, ap (slice_get (set duties t new)) thread ∙ stands, own))
        (λ (no : k ≢ length front). kept (thread_of clients x.client) x (f.each k x (sym (get_snoc_else front k job no) ∙ at)))

    dealt_in_order : (k l : ℕ) (a b : Job C) → k < l → slice_get (front ++ job ∷ []) k ≡ Some a → slice_get (front ++ job ∷ []) l ≡ Some b → a.client ≡ b.client → AreInOrder (set duties t new) (thread_of clients a.client) a b
    dealt_in_order k l a b lt at at' same = let low' = get_within (front ++ job ∷ []) b l at' in let long = length-append front (job ∷ []) in let before : k ≢ length front = λ is. absurd (omega arith) in
        let at0 : slice_get front k ≡ Some a = sym (get_snoc_else front k job before) ∙ at in
        dite (ℕ_discrete l (length front))
        (λ (is : l ≡ length front).
        let one : job ≡ b = last_is l b is at' in
        let same_thread : thread_of clients a.client ≡ t = ap (thread_of clients) (same ∙ ap (λ (z : Job C). z.client) (sym one)) ∙ thread in
        subst (λ (y : Job C). AreInOrder (set duties t new) (thread_of clients a.client) a y) one (behind a (thread_of clients a.client) same_thread (f.each k a at0)))
        (λ (no : l ≢ length front). kept_order (thread_of clients a.client) a b (f.in_order k l a b lt at0 (sym (get_snoc_else front l job no) ∙ at') same))

    pub dealt_more : AreDealt clients (front ++ job ∷ []) (set duties t new)
    dealt_more = record {
      count = let a = jobs_in_set duties t old new here in let b = length-append front (job ∷ []) in let c = length-append old.jobs.items (job ∷ []) in let d = ap length more in let e = f.count in omega arith;
      each = dealt_each;
      in_order = dealt_in_order;
    }

module _ {C A : Type 0} where
  pub placed_more : (jobs : List (Job C × Seen (Reply A))) (job : Job C × Seen (Reply A)) (old mid new : List (Outcome A)) → ArePlaced jobs old mid → IsPut job.0.place job.1 mid new → ArePlaced (jobs ++ job ∷ []) old new
  placed_more jobs job old mid new f p k o e = ⊎_elim
      (λ (same : slice_get mid k ≡ Some o). ⊎_elim (λ (was : slice_get old k ≡ Some o). inl was)
      (λ (x : (j : ℕ) × (job : Job C × Seen (Reply A)) × (r : Outcome (Reply A)) × (slice_get jobs j ≡ Some job) × (job.1 ≡ Done r) × (job.0.place ≡ k) × (o ≡ plain r)). inr (x.0, x.1, x.2, get_longer jobs (job ∷ []) x.0 x.1 x.3, x.4, x.5, x.6)) (f k o same))
      (λ (put : (r : Outcome (Reply A)) × (job.1 ≡ Done r) × (job.0.place ≡ k) × (o ≡ plain r)). inr (length jobs, job, put.0, get_last jobs job, put.1, put.2, put.3)) (p k o e)

module _ {A : Type 0} where
  pub put_here : (place : ℕ) (r : Outcome (Reply A)) (old new : List (Outcome A)) → ((slice_get new place ≡ Some (plain r)) ⊎ (length old ≤ place)) → length new ≡ length old → ((k : ℕ) → k ≢ place → slice_get new k ≡ slice_get old k) → IsPut place (Done r) old new
  put_here place r old new at long others k o e = dite (ℕ_discrete k place)
      (λ (here : k ≡ place). ⊎_elim (λ (a : slice_get new place ≡ Some (plain r)). inr (r, refl, sym here, some_eq o (plain r) (sym e ∙ ap (slice_get new) here ∙ a)))
      (λ (far : length old ≤ place). let low = get_within new o k e in absurd (omega arith)) at)
      (λ (no : k ≢ place). inl (sym (others k no) ∙ e))

module _ {C A : Type 0} where
  -- one outcome more, at its job's place
  pub told_more : (jobs : List (Job C × Seen (Reply A))) (job : Job C × Seen (Reply A)) (mid new : List (HistoryOutcome A)) → AreReported jobs mid → ((slice_get new job.0.place ≡ Some (reported job.1)) ⊎ (length mid ≤ job.0.place)) → length new ≡ length mid
      → ((k : ℕ) → k ≢ job.0.place → slice_get new k ≡ slice_get mid k) → AreReported (jobs ++ job ∷ []) new
  told_more jobs job mid new f at long others k o e = dite (ℕ_discrete k job.0.place)
      (λ (here : k ≡ job.0.place). ⊎_elim
      (λ (a : slice_get new job.0.place ≡ Some (reported job.1)). inl (length jobs, job, get_last jobs job, sym here, some_eq o (reported job.1) (sym e ∙ ap (slice_get new) here ∙ a)))
      (λ (far : length mid ≤ job.0.place). let low = get_within new o k e in absurd (omega arith)) at)
      (λ (no : k ≢ job.0.place). ⊎_elim
      (λ (x : (n : ℕ) × (j : Job C × Seen (Reply A)) × (slice_get jobs n ≡ Some j) × (j.0.place ≡ k) × (o ≡ reported j.1)). inl (x.0, x.1, get_longer jobs (job ∷ []) x.0 x.1 x.2, x.3, x.4))
      (λ (none : (n : ℕ) (j : Job C × Seen (Reply A)) → slice_get jobs n ≡ Some j → j.0.place ≢ k). inr (λ n j at' is. dite (ℕ_discrete n (length jobs))
      (λ (last : n ≡ length jobs). no (sym is ∙ ap (λ (z : Job C × Seen (Reply A)). z.0.place) (sym (some_eq job j (sym (get_last jobs job) ∙ ap (slice_get (jobs ++ job ∷ [])) (sym last) ∙ at')))))
      (λ (front : n ≢ length jobs). none n j (sym (get_snoc_else jobs n job front) ∙ at') is))) (f k o (sym (others k no) ∙ e)))

  pub none_told : (outcomes : List (HistoryOutcome A)) → AreReported {C = C} {A = A} [] outcomes
  none_told outcomes k o e = inr (λ n j at. absurd (no_job n j at)) where
    no_job : (n : ℕ) (j : Job C × Seen (Reply A)) → slice_get [] n ≡ Some j → ⊥
    no_job n j at = let low = get_within [] j n at in omega arith

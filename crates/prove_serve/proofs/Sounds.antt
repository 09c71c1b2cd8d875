-- What a thread did stays right, whatever other threads do.
use Rattle.std.proofs.Common.{◌≡◌, ◌≢◌, ◌⊎◌, ⊎_elim, true, Bool, map, ℕ, suc, ◌<◌, ◌≤◌, ltb, List, [], ◌∷◌, ◌++◌, length, Option, Some, None, MatchOption, MatchResult, sym, refl, ap, ◌∙◌, subst, arith, lt_of_not-le}
use Rattle.std.specs.declared.result.Result.{Result}
use Rattle.std.specs.declared.result.Result.TheVariants.{Ok, Err}
use mathlib.Core.Logic.{dite}
use mathlib.Core.List.{IsPrefix}
use native.Mathlib.Decide.{ℕ_discrete, dec_le}
use Rattle.std.specs.List.{slice_get}
use Rattle.tallies.specs.Tallies.{times}
use Rattle.turn_lock.specs.Lists.{unite, longer, shorter}
use Rattle.tallies.proofs.api.Once.{times-append}
use Rattle.turn_lock.proofs.api.United.{times-unite}
use Rattle.job_core.proofs.api.Places.{some_eq, get_last, get_within, get_map}
use Rattle.job_table.specs.declared.event.Event.{Event}
use Rattle.job_table.specs.declared.event.Event.TheVariants.{Submit, Take, Finish, Withdraw}
use Rattle.job_table.specs.declared.event.Outcome.{Outcome}
use Rattle.job_table.specs.History.{Has, Submits, Finishes}
use Rattle.job_table.specs.Passes.{PassView, Within, Looks, Adds}
use Rattle.job_table.specs.Slots.{OutcomeFits, IsOutcome, IsSeen}
use Rattle.job_table.specs.declared.slot.Seen.{Seen}
use Rattle.job_table.specs.declared.slot.Seen.TheVariants.{Done}
use Rattle.job_table.specs.declared.event.Outcome.TheVariants.{Answer, Memory}
use Rattle.job_table.proofs.api.Calls.{same_front, prefix_length, prefix_more, both_begin, not_there, seen_longer}
use Rattle.prove_serve.specs.declared.job.Job.{Job}
use Rattle.prove_serve.specs.declared.job.Reply.{Reply}
use Rattle.prove_serve.specs.Script.{IsOf, AreOf, AreNumbered, AreVacant, ArePlaced, AreOutcomes, plain, unmarked}
use Rattle.job_table.specs.declared.table.Receipt.{Receipt}
use Rattle.prove_serve.specs.Sound.{IsMarked, AreMarked, IsRight, AreRight, ActsFor, IsServed}

-- by cases of a result
pub by_result : {X Y : Type 0} {P : X → Type 0} {Q : Y → Type 0} (R : Type 0) (r : Result X Y) → MatchResult r P Q → ((x : X) → P x → R) → ((y : Y) → Q y → R) → R
by_result R (Ok x) m f g = f x m
by_result R (Err y) m f g = g y m

-- what holds where there is none
pub by_none : {X : Type 0} {P : Type 0} (Q : X → Type 0) (o : Option X) → MatchOption o P Q → ((x : X) → o ≡ Some x → ⊥) → P
by_none Q None m none = m
by_none Q (Some x) m none = absurd (none x refl)

module _ {C : Type 0} where
  -- the first of the jobs, and the others
  pub first_of : (script : List (Job C)) (job : Job C) (jobs : List (Job C)) → AreOf script (job ∷ jobs) → IsOf script job
  first_of script job jobs of = of 0 job refl

  pub rest_of : (script : List (Job C)) (job : Job C) (jobs : List (Job C)) → AreOf script (job ∷ jobs) → AreOf script jobs
  rest_of script job jobs of k x at = of (suc k) x at

-- an own place was seen
low_place : {E : Type 0} (seen : List E) (mine : List ℕ) (p : ℕ) → Within seen mine → 1 ≤ times p mine → p < length seen
low_place seen mine p w own = dite (dec_le (length seen) p) (λ (far : length seen ≤ p). let z = w p far in absurd (omega arith)) (λ (near : ¬ (length seen ≤ p)). lt_of_not-le near)

module _ {C A : Type 0} where
  -- what is right stays so in a longer history
  right_longer : (script : List (Job C)) (seen h : List (Event (Job C) A)) (e : Event (Job C) A) → IsPrefix seen h → IsRight script seen e → IsRight script h e
  right_longer script seen h (Submit n kept) pre r = r
  right_longer script seen h (Take n) pre r = r
  right_longer script seen h (Finish n kept) pre r = r
  right_longer script seen h (Withdraw n) pre r = (r.0, r.1, seen_longer h seen (Submits n r.0) pre r.2)

  acts_longer : (script : List (Job C)) (seen h : List (Event (Job C) A)) (mine : List ℕ) → Within seen mine → IsPrefix seen h → AreRight script seen mine → AreRight script h mine
  acts_longer script seen h mine w pre s p e at own = right_longer script seen h e pre (s p e (sym (same_front seen h p pre (low_place seen mine p w own)) ∙ at) own)

  pub acts_looks : (script : List (Job C)) (old new : PassView (Event (Job C) A)) → Within old.seen old.mine → Looks old new → ActsFor script old → ActsFor script new
  acts_looks script old new w l s = subst (λ (m : List ℕ). AreRight script new.seen m) (ap (λ (v : PassView (Event (Job C) A)). v.mine) (sym l.same)) (acts_longer script old.seen new.seen old.mine w l.begins s)

  pub acts_adds : (script : List (Job C)) (old new : PassView (Event (Job C) A)) (says : List (Event (Job C) A) → Event (Job C) A → Type 0) → Within old.seen old.mine → (a : Adds old says new) → IsRight script new.seen a.event → ActsFor script old → ActsFor script new
  acts_adds script old new says w a own s = subst (λ (z : List (Event (Job C) A) × List ℕ). AreRight script z.0 z.1) (λ k. (sym a.seen k, sym a.mine k)) more where
    own' : IsRight script (a.before ++ a.event ∷ []) a.event
    own' = subst (λ (l : List (Event (Job C) A)). IsRight script l a.event) a.seen own

    more : AreRight script (a.before ++ a.event ∷ []) (old.mine ++ length a.before ∷ [])
    more p e at some = dite (ℕ_discrete p (length a.before))
        (λ (is : p ≡ length a.before). subst (IsRight script (a.before ++ a.event ∷ [])) (some_eq a.event e (sym (get_last a.before a.event) ∙ ap (slice_get (a.before ++ a.event ∷ [])) (sym is) ∙ at)) own')
        (λ (no : p ≢ length a.before).
        let z = not_there p (length a.before) no in let t = times-append p old.mine (length a.before ∷ []) in let mine : 1 ≤ times p old.mine = omega arith in
        let low = low_place old.seen old.mine p w mine in let l = prefix_length old.seen a.before a.begins in
        acts_longer script old.seen (a.before ++ a.event ∷ []) old.mine w (prefix_more old.seen a.before (a.event ∷ []) a.begins) s p e at mine)

  pub acts_joins : (script : List (Job C)) (a b : PassView (Event (Job C) A)) → Within a.seen a.mine → Within b.seen b.mine → IsPrefix (shorter a.seen b.seen) (longer a.seen b.seen) → ActsFor script a → ActsFor script b → AreRight script (longer a.seen b.seen) (unite a.mine b.mine)
  acts_joins script a b w w' begins s s' p e at own = let both = both_begin a.seen b.seen (ltb (length a.seen) (length b.seen)) begins in let u = times-unite p a.mine b.mine in
      dite (dec_le 1 (times p a.mine)) (λ (mine : 1 ≤ times p a.mine). acts_longer script a.seen (longer a.seen b.seen) a.mine w both.0 s p e at mine)
      (λ (other : ¬ (1 ≤ times p a.mine)). let none : times p a.mine < 1 = lt_of_not-le other in acts_longer script b.seen (longer a.seen b.seen) b.mine w' both.1 s' p e at (omega arith))

  -- a take and a finish are always right
  pub right_take : (script : List (Job C)) (seen : List (Event (Job C) A)) (e : Event (Job C) A) (n : ℕ) → e ≡ Take n → IsRight script seen e
  right_take script seen e n is = subst (IsRight script seen) (sym is) tt

  pub right_finish : (script : List (Job C)) (seen : List (Event (Job C) A)) (e : Event (Job C) A) (n : ℕ) (o : Outcome A) → Finishes n o e → IsRight script seen e
  right_finish script seen e n o f = subst (IsRight script seen) (sym f.1) tt

  pub right_submit : (script : List (Job C)) (seen : List (Event (Job C) A)) (e : Event (Job C) A) (n : ℕ) (job : Job C) → IsOf script job → Submits n job e → IsRight script seen e
  right_submit script seen e n job of s = subst (IsRight script seen) (sym s.1) (subst (IsOf script) (sym s.2) of)

  pub right_withdraw : (script : List (Job C)) (old seen : List (Event (Job C) A)) (e : Event (Job C) A) (n : ℕ) → IsPrefix old seen → IsMarked old n → e ≡ Withdraw n → IsRight script seen e
  right_withdraw script old seen e n pre m is = subst (IsRight script seen) (sym is) (right_longer script old seen (Withdraw n) pre m)

  pub marked_longer : (seen h : List (Event (Job C) A)) (receipts : List Receipt) → IsPrefix seen h → AreMarked seen receipts → AreMarked h receipts
  marked_longer seen h receipts pre m k r at = let old = m k r at in (old.0, old.1, seen_longer h seen (Submits r.job old.0) pre old.2)

  -- the receipts that are left
  pub first_marked : (seen : List (Event (Job C) A)) (receipt : Receipt) (receipts : List Receipt) → AreMarked seen (receipt ∷ receipts) → IsMarked seen receipt.job
  first_marked seen receipt receipts m = m 0 receipt refl

  pub rest_marked : (seen : List (Event (Job C) A)) (receipt : Receipt) (receipts : List Receipt) → AreMarked seen (receipt ∷ receipts) → AreMarked seen receipts
  rest_marked seen receipt receipts m k r at = m (suc k) r at

  pub marked_none : (seen : List (Event (Job C) A)) (receipts : List Receipt) → length receipts ≡ 0 → AreMarked seen receipts
  marked_none seen [] none k r at = absurd (let low = get_within [] r k at in omega arith)
  marked_none seen (x ∷ receipts) none k r at = absurd (omega arith)

  -- the receipts with one more, where the job was submitted and is marked
  pub marked_kept : {Y : Type 0} (old new : List (Event (Job C) A)) (receipts receipts' : List Receipt) (job : Job C) (submitted : Result Receipt Y) → IsPrefix old new → AreMarked old receipts → ((r : Receipt) → submitted ≡ Ok r → Has new (Submits r.job job))
      → ((k : ℕ) (r : Receipt) → slice_get receipts' k ≡ Some r → (slice_get receipts k ≡ Some r) ⊎ ((job.marked ≡ true) × (submitted ≡ Ok r))) → AreMarked new receipts'
  marked_kept old new receipts receipts' job submitted pre m has kept k r at = ⊎_elim (λ (was : slice_get receipts k ≡ Some r). marked_longer old new receipts pre m k r was)
      (λ (one : (job.marked ≡ true) × (submitted ≡ Ok r)). (job, one.0, has r one.1)) (kept k r at)

module _ {C A : Type 0} (fits : A → C → Type 0) where
  plain_fits : (r : Outcome (Reply A)) (job : Job C) → OutcomeFits (λ (x : Reply A) (j : Job C). fits x.answer j.case) r job → OutcomeFits fits (plain r) job.case
  plain_fits (Answer a) job f = f
  plain_fits Memory job f = tt

  memory_fits : (o : Outcome A) (c : C) → o ≡ Memory → OutcomeFits fits o c
  memory_fits o c is = subst (λ (x : Outcome A). OutcomeFits fits x c) (sym is) tt

  -- each outcome that was placed fits the case at its place
  pub outcomes_of : (jobs : List (ℕ × C)) (script : List (Job C)) (history : List (Event (Job C) (Reply A))) (ended : List (Job C × Seen (Reply A))) (old new : List (Outcome A)) → AreNumbered (map unmarked jobs) script
      → IsServed (λ (x : Reply A) (j : Job C). fits x.answer j.case) script history ended → ArePlaced ended old new → AreVacant old → length old ≡ length jobs → length new ≡ length old → AreOutcomes fits jobs new
  outcomes_of jobs script history ended old new n s f vacant long same = record { as_many = same ∙ long; each = each } where
    each : (k : ℕ) (job : ℕ × C) (o : Outcome A) → slice_get jobs k ≡ Some job → slice_get new k ≡ Some o → OutcomeFits fits o job.1
    each k job o at here = ⊎_elim (λ (was : slice_get old k ≡ Some o). memory_fits o job.1 (vacant k o was))
        (λ (x : (j : ℕ) × (job : Job C × Seen (Reply A)) × (r : Outcome (Reply A)) × (slice_get ended j ≡ Some job) × (job.1 ≡ Done r) × (job.0.place ≡ k) × (o ≡ plain r)).
        let e = s.ends.each x.0 x.1 x.3 in
        let end : IsOutcome (λ (x : Reply A) (j : Job C). fits x.answer j.case) history x.0 x.2 = subst (IsSeen (λ (x : Reply A) (j : Job C). fits x.answer j.case) history x.0) x.4 e.1 in
        let of : IsOf script x.1.0 = subst (IsOf script) e.0.1.2 (s.right e.0.2.0 (Submit x.0 e.0.1.0) (e.0.2.1 ∙ ap (λ (y : Event (Job C) (Reply A)). Some y) e.0.1.1)) in
        let stands = (n.each x.1.0.place x.1.0 of).1 in
        let case : x.1.0.case ≡ job.1 = ap (λ (y : ℕ × C × Bool). y.1) (some_eq (x.1.0.client, x.1.0.case, x.1.0.marked) (unmarked job) (sym stands ∙ ap (slice_get (map unmarked jobs)) x.5 ∙ get_map unmarked jobs k job at)) in
        subst (λ (y : Outcome A × C). OutcomeFits fits y.0 y.1) (λ i. (sym x.6 i, case i)) (plain_fits x.2 x.1.0 (end.suits x.1.0 e.0))) (f k o here)

-- The history of a service, with the places of its jobs, is one of the script.
use Rattle.std.proofs.Common.{◌≡◌, ◌≢◌, ◌⊎◌, inl, inr, ⊎_elim, ℕ, zero, suc, ◌+◌, ◌*◌, ◌<◌, ◌≤◌, Bool, true, eqb, cond, List, [], ◌∷◌, ◌++◌, map, length, Some, sym, refl, ap, ◌∙◌, subst, arith, length-append, lt_of_not-le}
use mathlib.Core.Logic.{dite}
use native.Mathlib.Decide.{ℕ_discrete, dec_le}
use Rattle.std.specs.List.{slice_get}
use Rattle.std.proofs.lemmas.Bool.Decides.{nat_tests}
use Rattle.std.proofs.lemmas.List.{length-map}
use Rattle.tallies.specs.Tallies.{times, once_below, HasEachOnce}
use Rattle.tallies.proofs.api.Once.{times-append, split_at, once_suc}
use Rattle.job_core.specs.declared.entry.Entry.{Entry}
use Rattle.job_core.specs.declared.entry.Entry.TheVariants as entry
use Rattle.job_core.specs.declared.entry.JobState.{JobState}
use Rattle.job_core.specs.declared.entry.JobState.TheVariants as state
use Rattle.job_core.proofs.api.Places.{no_some, some_eq, get_map}
use Rattle.job_core.proofs.api.Runs.{three_less, submit_below}
use Rattle.job_core.proofs.api.Lasting.{withdraw_withdrawn, withdrawn_withdraws}
use Rattle.job_table.specs.declared.event.Event.{Event}
use Rattle.job_table.specs.declared.event.Event.TheVariants.{Submit, Take, Finish, Withdraw}
use Rattle.job_table.specs.declared.event.Outcome.TheVariants as outcomes
use Rattle.job_table.specs.declared.slot.Seen.{Seen}
use Rattle.job_table.specs.declared.slot.Seen.TheVariants as seen
use Rattle.job_table.specs.History.{entry_of, entries_of, jobs_of, Has, Submits}
use Rattle.job_table.specs.Slots.{IsSeen}
use Rattle.job_table.proofs.api.Kept.{one_case}
use Rattle.prove_serve.specs.declared.job.Job.{Job}
use Rattle.prove_serve.specs.declared.job.Reply.{Reply}
use Rattle.prove_serve.specs.declared.outcome.HistoryOutcome.{HistoryOutcome}
use Rattle.prove_serve.specs.declared.outcome.HistoryOutcome.TheVariants.{Answer, Memory, Withdrawn}
use Rattle.prove_serve.specs.Script.{IsOf, AreNumbered}
use Rattle.prove_serve.specs.Sound.{IsMarked, IsServed}
use Rattle.prove_serve.specs.History.{AnswerFits, EndsSo, IsHistoryOf}
use Rattle.prove_serve.specs.Reported.{AreReported, reported, place_of}
use Rattle.tallies.proofs.api.Once.{one_at_most as below_once}

-- ---- lists of numbers

-- a list of at most n numbers that has each number below n has each of them once, and no other
pub all_once : (n : ℕ) (xs : List ℕ) → length xs ≤ n → ((x : ℕ) → x < n → 1 ≤ times x xs) → HasEachOnce n xs
all_once zero [] few some x = none_below x where
  none_below : (x : ℕ) → 0 ≡ once_below x 0
  none_below x = grind (arith, nat_tests)
all_once zero (y ∷ xs) few some x = absurd (omega arith)
all_once (suc n) xs few some x =
    let s = split_at n xs (some n (omega arith)) in let long = ap length s.2 in let a = length-append s.0 (n ∷ s.1) in let b = length-append s.0 s.1 in
    let i = all_once n (s.0 ++ s.1) (omega arith) (λ y low. let t = ap (times y) s.2 in let u = times-append y s.0 (n ∷ s.1) in let v = times-append y s.0 s.1 in let w = some y (omega arith) in let z = other y n low in omega arith) x in
    let t = ap (times x) s.2 in let u = times-append x s.0 (n ∷ s.1) in let v = times-append x s.0 s.1 in let z = once_suc x n in omega arith where
      other : (y n : ℕ) → y < n → cond {A = ℕ} (eqb y n) 1 0 ≡ 0
      other y n low = grind (arith, nat_tests)

here_once : (x : ℕ) (xs : List ℕ) → 1 ≤ times x (x ∷ xs)
here_once x xs = grind (arith, nat_tests)

more_once : (x y : ℕ) (xs : List ℕ) → times x xs ≤ times x (y ∷ xs)
more_once x y xs = grind (arith, nat_tests)

pub stands_once : (xs : List ℕ) (i x : ℕ) → slice_get xs i ≡ Some x → 1 ≤ times x xs
stands_once [] i x at = absurd (no_some x at)
stands_once (y ∷ xs) zero x at = subst (λ (z : ℕ). 1 ≤ times z (y ∷ xs)) (some_eq y x at) (here_once y xs)
stands_once (y ∷ xs) (suc i) x at = let a = stands_once xs i x at in let b = more_once x y xs in omega arith

one_more : (x y : ℕ) (xs : List ℕ) → x ≡ y → times x (y ∷ xs) ≡ 1 + times x xs
one_more x y xs is = grind (arith, nat_tests)

-- a number that is at two places is there twice
one_place : (xs : List ℕ) (i k x : ℕ) → times x xs ≤ 1 → slice_get xs i ≡ Some x → slice_get xs k ≡ Some x → i ≡ k
one_place [] i k x few at at' = absurd (no_some x at)
one_place (y ∷ xs) zero zero x few at at' = refl
one_place (y ∷ xs) zero (suc k) x few at at' = let a = stands_once xs k x at' in let b = one_more x y xs (sym (some_eq y x at)) in absurd (omega arith)
one_place (y ∷ xs) (suc i) zero x few at at' = let a = stands_once xs i x at in let b = one_more x y xs (sym (some_eq y x at')) in absurd (omega arith)
one_place (y ∷ xs) (suc i) (suc k) x few at at' = let m = more_once x y xs in ap suc (one_place xs i k x (omega arith) at at')

-- there are as many of them as that
few_numbers : (n : ℕ) (xs : List ℕ) → HasEachOnce n xs → n ≤ length xs
few_numbers zero xs h = omega arith
few_numbers (suc n) xs h = let one = h n in let b = below n in let s = split_at n xs (omega arith) in let l = ap length s.2 in let a = length-append s.0 (n ∷ s.1) in let c = length-append s.0 s.1 in
    let i = few_numbers n (s.0 ++ s.1) (λ x. let t = ap (times x) s.2 in let u = times-append x s.0 (n ∷ s.1) in let v = times-append x s.0 s.1 in let w = h x in let z = once_suc x n in omega arith) in omega arith where
      below : (n : ℕ) → once_below n (suc n) ≡ 1
      below n = grind (arith, nat_tests)

low_once : (x n : ℕ) → 1 ≤ once_below x n → x < n
low_once x n h = grind (arith, nat_tests)

-- ---- entries

module _ {C A : Type 0} where
  withdraw_at : (es : List (Event C A)) (q j : ℕ) → slice_get (entries_of es) q ≡ Some (entry.Withdraw j) → slice_get es q ≡ Some (Withdraw j)
  withdraw_at [] q j e = absurd (no_some (entry.Withdraw j) e)
  withdraw_at (x ∷ es) (suc q) j e = withdraw_at es q j e
  withdraw_at (Submit i c ∷ es) zero j e = absurd (not (some_eq (entry.Submit i) (entry.Withdraw j) e)) where
    not : entry.Submit i ≡ entry.Withdraw j → ⊥
    not e = cc
  withdraw_at (Finish i o ∷ es) zero j e = absurd (not (some_eq (entry.Finish i) (entry.Withdraw j) e)) where
    not : entry.Finish i ≡ entry.Withdraw j → ⊥
    not e = cc
  withdraw_at (Take i ∷ es) zero j e = absurd (not (some_eq (entry.Take i) (entry.Withdraw j) e)) where
    not : entry.Take i ≡ entry.Withdraw j → ⊥
    not e = cc
  withdraw_at (Withdraw i ∷ es) zero j e = ap (λ (x : Event C A). Some x) (same i j (some_eq (entry.Withdraw i) (entry.Withdraw j) e)) where
    same : (i j : ℕ) → entry.Withdraw i ≡ entry.Withdraw j → ◌≡◌ {A = Event C A} (Withdraw i) (Withdraw j)
    same i j e = cc

-- ---- the history of a script

module _ {C A : Type 0} (fits : A → C → Type 0) where
  abbrev FitsJob : Reply A → Job C → Type 0
  FitsJob = λ (reply : Reply A) (job : Job C). fits reply.answer job.case

  -- how a job ended, by what is reported of it
  suits_of : (h : List (Event (Job C) (Reply A))) (n : ℕ) (s : Seen (Reply A)) (job : Job C) → IsSeen FitsJob h n s → Has h (Submits n job) → AnswerFits fits (reported s) job.case
  suits_of h n seen.Queued job is has = tt
  suits_of h n seen.Running job is has = tt
  suits_of h n seen.Withdrawn job is has = tt
  suits_of h n (seen.Done outcomes.Memory) job is has = tt
  suits_of h n (seen.Done (outcomes.Answer r)) job is has = is.suits job has

  withdrawn_seen : (h : List (Event (Job C) (Reply A))) (n : ℕ) (s : Seen (Reply A)) → IsSeen FitsJob h n s → reported s ≡ Withdrawn → slice_get (jobs_of h) n ≡ Some state.Withdrawn
  withdrawn_seen h n seen.Queued is e = absurd (not e) where
    not : ◌≡◌ {A = HistoryOutcome A} Memory Withdrawn → ⊥
    not e = cc
  withdrawn_seen h n seen.Running is e = absurd (not e) where
    not : ◌≡◌ {A = HistoryOutcome A} Memory Withdrawn → ⊥
    not e = cc
  withdrawn_seen h n seen.Withdrawn is e = is
  withdrawn_seen h n (seen.Done outcomes.Memory) is e = absurd (not e) where
    not : ◌≡◌ {A = HistoryOutcome A} Memory Withdrawn → ⊥
    not e = cc
  withdrawn_seen h n (seen.Done (outcomes.Answer r)) is e = absurd (not r.answer e) where
    not : (a : A) → ◌≡◌ {A = HistoryOutcome A} (Answer a) Withdrawn → ⊥
    not a e = cc

  other_state : (h : List (Event (Job C) (Reply A))) (n : ℕ) (s t : JobState) → slice_get (jobs_of h) n ≡ Some s → slice_get (jobs_of h) n ≡ Some t → s ≡ t
  other_state h n s t a b = some_eq s t (sym a ∙ b)

  seen_withdrawn : (h : List (Event (Job C) (Reply A))) (n : ℕ) (s : Seen (Reply A)) → IsSeen FitsJob h n s → slice_get (jobs_of h) n ≡ Some state.Withdrawn → reported s ≡ Withdrawn
  seen_withdrawn h n seen.Queued is at = absurd (let e = other_state h n state.Queued state.Withdrawn is at in cc)
  seen_withdrawn h n seen.Running is at = absurd (let e = other_state h n state.Running state.Withdrawn is at in cc)
  seen_withdrawn h n seen.Withdrawn is at = refl
  seen_withdrawn h n (seen.Done o) is at = absurd (let e = other_state h n state.Done state.Withdrawn is.done at in cc)

  module _ (jobs : List (ℕ × C × Bool)) (script : List (Job C)) (h : List (Event (Job C) (Reply A))) (ended : List (Job C × Seen (Reply A))) (numbered : AreNumbered jobs script) (s : IsServed FitsJob script h ended) where
    abbrev places : List ℕ
    places = map place_of ended

    -- the job of a number is in the script at its place
    of_number : (n : ℕ) (e : Job C × Seen (Reply A)) → slice_get ended n ≡ Some e → IsOf script e.0
    of_number n e at = let f = (s.ends.each n e at).0 in subst (IsOf script) f.1.2 (s.right f.2.0 (Submit n f.1.0) (f.2.1 ∙ ap (λ (y : Event (Job C) (Reply A)). Some y) f.1.1))

    -- a job that was submitted is the job of its number
    number_of : (n : ℕ) (job : Job C) → Has h (Submits n job) → (e : Job C × Seen (Reply A)) × (slice_get ended n ≡ Some e) × (e.0 ≡ job)
    number_of n job has =
        let at : slice_get h has.2.0 ≡ Some (Submit n has.1.0) = has.2.1 ∙ ap (λ (y : Event (Job C) (Reply A)). Some y) has.1.1 in
        let low = submit_below s.steps.0 [] (entries_of h) has.2.0 n s.steps.1 (get_map entry_of h has.2.0 (Submit n has.1.0) at) in
        let many = s.ends.as_many in
        let e = found ended n (omega arith) in
        (e.0, e.1, one_case FitsJob s.steps.0 h n e.0.0 job s.steps.1 (s.ends.each n e.0 e.1).0 has) where
          found : (l : List (Job C × Seen (Reply A))) (n : ℕ) → n < length l → (e : Job C × Seen (Reply A)) × (slice_get l n ≡ Some e)
          found [] n low = absurd (omega arith)
          found (x ∷ l) zero low = (x, refl)
          found (x ∷ l) (suc n) low = found l n (omega arith)

    place_at : (n : ℕ) (job : Job C) → Has h (Submits n job) → slice_get places n ≡ Some job.place
    place_at n job has = let e = number_of n job has in get_map place_of ended n e.0 e.1 ∙ ap (λ (j : Job C). Some j.place) e.2

    -- each place of the script is that of a job
    has_place : (k : ℕ) → k < length jobs → 1 ≤ times k places
    has_place k low =
        let many = numbered.as_many in
        let j = found script k (omega arith) in
        let f = s.each k j.0 j.1 in
        stands_once places f.0 k (place_at f.0 j.0 f.1 ∙ ap (λ (p : ℕ). Some p) (numbered.each k j.0 j.1).0) where
          found : (l : List (Job C)) (n : ℕ) → n < length l → (e : Job C) × (slice_get l n ≡ Some e)
          found [] n low = absurd (omega arith)
          found (x ∷ l) zero low = (x, refl)
          found (x ∷ l) (suc n) low = found l n (omega arith)

    once : HasEachOnce (length jobs) places
    once = all_once (length jobs) places (let a = length-map ended place_of in let b = s.ends.as_many in let c = s.few in let d = numbered.as_many in omega arith) has_place

    same_number : (m n k : ℕ) → slice_get places m ≡ Some k → slice_get places n ≡ Some k → m ≡ n
    same_number m n k a b = one_place places m n k (let o = once k in let l = below_once k (length jobs) in omega arith) a b

    -- the job of a place, and its number's end
    job_at : (n k : ℕ) → slice_get places n ≡ Some k → (e : Job C × Seen (Reply A)) × (slice_get ended n ≡ Some e) × (e.0.place ≡ k) × (slice_get script k ≡ Some e.0) × (slice_get jobs k ≡ Some (e.0.client, e.0.case, e.0.marked))
    job_at n k at = let e = found ended n k at in let of = of_number n e.0 e.1 in let stands : slice_get script k ≡ Some e.0.0 = ap (slice_get script) (sym e.2) ∙ of in
        (e.0, e.1, e.2, stands, (numbered.each k e.0.0 stands).1) where
          found : (l : List (Job C × Seen (Reply A))) (n k : ℕ) → slice_get (map place_of l) n ≡ Some k → (e : Job C × Seen (Reply A)) × (slice_get l n ≡ Some e) × (e.0.place ≡ k)
          found [] n k at = absurd (no_some k at)
          found (x ∷ l) zero k at = (x, refl, some_eq x.0.place k at)
          found (x ∷ l) (suc n) k at = found l n k at

    rising : (m n k l : ℕ) (a b : ℕ × C × Bool) → m < n → slice_get places m ≡ Some k → slice_get places n ≡ Some l → slice_get jobs k ≡ Some a → slice_get jobs l ≡ Some b → a.0 ≡ b.0 → k < l
    rising m n k l a b lt at at' ja jb same =
        let x = job_at m k at in let y = job_at n l at' in
        let client : y.0.0.client ≡ x.0.0.client = ap (λ (z : ℕ × C × Bool). z.0) (some_eq (y.0.0.client, y.0.0.case, y.0.0.marked) b (sym y.4 ∙ jb)) ∙ sym same ∙ sym (ap (λ (z : ℕ × C × Bool). z.0) (some_eq (x.0.0.client, x.0.0.case, x.0.0.marked) a (sym x.4 ∙ ja))) in
        dite (dec_le l k)
        (λ (back : l ≤ k). dite (ℕ_discrete l k)
        (λ (is : l ≡ k). absurd (let e = same_number m n k at (at' ∙ ap (λ (p : ℕ). Some p) is) in omega arith))
        (λ (no : l ≢ k).
        let f = s.in_order l k y.0.0 x.0.0 (omega arith) y.3 x.3 client in
        let p = place_at f.0 y.0.0 f.3 ∙ ap (λ (z : ℕ). Some z) y.2 in
        let q = place_at f.1 x.0.0 f.4 ∙ ap (λ (z : ℕ). Some z) x.2 in
        let u = same_number f.0 n l p at' in let v = same_number f.1 m k q at in let w = f.2 in absurd (omega arith)))
        (λ (no : ¬ (l ≤ k)). lt_of_not-le no)

    -- a withdrawn job was marked
    was_marked : (n : ℕ) (e : Job C × Seen (Reply A)) → slice_get ended n ≡ Some e → slice_get (jobs_of h) n ≡ Some state.Withdrawn → e.0.marked ≡ true
    was_marked n e at gone = let f = withdrawn_withdraws (entries_of h) n gone in
        let right : IsMarked h n = s.right f.0 (Withdraw n) (withdraw_at h f.0 n f.1) in
        ap (λ (j : Job C). j.marked) (one_case FitsJob s.steps.0 h n e.0 right.0 s.steps.1 (s.ends.each n e at).0 right.2) ∙ right.1

    -- the outcome at a place is that of its job
    outcome_is : (outcomes : List (HistoryOutcome A)) → AreReported ended outcomes → (n k : ℕ) (e : Job C × Seen (Reply A)) (o : HistoryOutcome A) → slice_get places n ≡ Some k → slice_get ended n ≡ Some e → e.0.place ≡ k → slice_get outcomes k ≡ Some o → o ≡ reported e.1
    outcome_is outcomes are n k e o at here place out = ⊎_elim
        (λ (x : (m : ℕ) × (job : Job C × Seen (Reply A)) × (slice_get ended m ≡ Some job) × (job.0.place ≡ k) × (o ≡ reported job.1)).
        let m = same_number x.0 n k (get_map place_of ended x.0 x.1 x.2 ∙ ap (λ (p : ℕ). Some p) x.3) at in
        x.4 ∙ ap (λ (z : Job C × Seen (Reply A)). reported z.1) (some_eq x.1 e (sym x.2 ∙ ap (slice_get ended) m ∙ here)))
        (λ (none : (m : ℕ) (job : Job C × Seen (Reply A)) → slice_get ended m ≡ Some job → job.0.place ≢ k). absurd (none n e here place)) (are k o out)

    ends_so : (outcomes : List (HistoryOutcome A)) → AreReported ended outcomes → (n k : ℕ) (job : ℕ × C × Bool) (o : HistoryOutcome A) → slice_get places n ≡ Some k → slice_get jobs k ≡ Some job → slice_get outcomes k ≡ Some o → EndsSo fits (entries_of h) n job o
    ends_so outcomes are n k job o at here out =
        let e = job_at n k at in
        let is = outcome_is outcomes are n k e.0 o at e.1 e.2 out in
        let same : (e.0.0.client, e.0.0.case, e.0.0.marked) ≡ job = some_eq (e.0.0.client, e.0.0.case, e.0.0.marked) job (sym e.4 ∙ here) in
        let end = s.ends.each n e.0 e.1 in record {
          withdrawn = (
            λ gone. withdrawn_withdraws (entries_of h) n (withdrawn_seen h n e.0.1 end.1 (sym is ∙ gone)),
            λ f. is ∙ seen_withdrawn h n e.0.1 end.1 (withdraw_withdrawn s.steps.0 [] (entries_of h) f.0 n s.steps.1 f.1),
          );
          marked = λ gone. ap (λ (z : ℕ × C × Bool). z.2) (sym same) ∙ was_marked n e.0 e.1 (withdrawn_seen h n e.0.1 end.1 (sym is ∙ gone));
          suits = subst (λ (z : HistoryOutcome A × (ℕ × C × Bool)). AnswerFits fits z.0 z.1.1) (λ i. (sym is i, same i)) (suits_of h n e.0.1 e.0.0 end.1 end.0);
        }

    state_of : (n : ℕ) (now : JobState) → slice_get (jobs_of h) n ≡ Some now → (now ≡ state.Done) ⊎ (now ≡ state.Withdrawn)
    state_of n state.Queued at = absurd (s.drained n at)
    state_of n state.Running at = absurd (s.ended n at)
    state_of n state.Done at = inl refl
    state_of n state.Withdrawn at = inr refl

    -- there are as many jobs as the script has
    as_many : length (jobs_of h) ≡ length jobs
    as_many = let a = length-map ended place_of in let b = s.ends.as_many in let c = s.few in let d = numbered.as_many in let e = few_numbers (length jobs) places once in omega arith

    -- how long it is
    pub history_fits : (length h ≤ 3 * length jobs) × (length ended ≤ length jobs)
    history_fits = let a = three_less s.steps.0 (entries_of h) s.steps.1 s.drained s.ended in let b = as_many in let l = length-map h entry_of in let c = s.ends.as_many in (omega arith, omega arith)

    -- The history of the table is one of the script.
    pub history_of : (outcomes : List (HistoryOutcome A)) (history : List Entry) (numbers : List ℕ) → AreReported ended outcomes → length outcomes ≡ length jobs → history ≡ entries_of h → numbers ≡ places → IsHistoryOf fits jobs outcomes history numbers
    history_of outcomes history numbers are many is is' = subst (λ (z : List Entry × List ℕ). IsHistoryOf fits jobs outcomes z.0 z.1) (λ k. (sym is k, sym is' k)) record {
      steps = s.steps;
      ended = state_of;
      numbers = length-map ended place_of ∙ s.ends.as_many;
      once = once;
      rising = rising;
      as_many = many;
      each = ends_so outcomes are;
      count = let a = three_less s.steps.0 (entries_of h) s.steps.1 s.drained s.ended in let b = as_many in omega arith;
    }

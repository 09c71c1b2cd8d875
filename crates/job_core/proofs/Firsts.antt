-- The first queued job, and what the steps make of it.
use Rattle.std.proofs.Common.{◌≡◌, ◌≢◌, ℕ, ◌+◌, ◌<◌, ◌≤◌, true, false, true≢false, not, List, length, get_or, set, get_or-set_other, Some, sym, ap, ◌∙◌, lt_of_not-le, arith}
use mathlib.Core.Logic.{dite}
use native.Mathlib.Decide.{ℕ_discrete, dec_le}
use Rattle.std.specs.List.{slice_get}
use Rattle.std.proofs.lemmas.List.Sums.{position_or_len_is, prefix_len-le-length, fails_before_first}
use Rattle.job_core.specs.declared.entry.JobState.{JobState}
use Rattle.job_core.specs.declared.entry.JobState.TheVariants.{Queued}
use Rattle.job_core.specs.JobMachine.{is_queued, before_queued, AreNotQueued}
use Rattle.job_core.proofs.api.Places.{some_here, some_eq, get_within}

queued_at : (js : List JobState) (j : ℕ) (d : JobState) → slice_get js j ≡ Some Queued → is_queued (get_or js j d) ≡ true
queued_at js j d at = ap is_queued (some_eq (get_or js j d) Queued (sym (some_here js j d (get_within js Queued j at)) ∙ at))

pub first_within : (js : List JobState) → before_queued js ≤ length js
first_within js = prefix_len-le-length (λ x. not (is_queued x)) js

pub first_here : (js : List JobState) (j : ℕ) → AreNotQueued js j → (d : JobState) → j < length js → is_queued (get_or js j d) ≡ true → j ≡ before_queued js
first_here js j none d low here = sym (position_or_len_is is_queued js j d (omega arith) (λ k h. none k d h) (λ _. here))

pub none_here : (js : List JobState) (j : ℕ) → AreNotQueued js j → length js ≤ j → before_queued js ≡ length js
none_here js j none all = position_or_len_is is_queued js (length js) Queued (omega arith) (λ k h. none k Queued (omega arith)) (λ h. absurd (omega arith))

pub one_more : (js : List JobState) (j : ℕ) → AreNotQueued js j → ((d : JobState) → is_queued (get_or js j d) ≡ false) → AreNotQueued js (j + 1)
one_more js j none here k d h = dite (ℕ_discrete k j) (λ (e : k ≡ j). ap (λ (i : ℕ). is_queued (get_or js i d)) e ∙ here d) (λ (n : k ≢ j). none k d (omega arith))

-- the jobs before the first queued one aren't queued
pub none_before : (js : List JobState) → AreNotQueued js (before_queued js)
none_before js k d h = fails_before_first is_queued js k d h

-- a queued job isn't before the first
pub not_before : (js : List JobState) (j : ℕ) → slice_get js j ≡ Some Queued → before_queued js ≤ j
not_before js j at = dite (dec_le (before_queued js) j) (λ (h : before_queued js ≤ j). h) (λ (h : ¬ (before_queued js ≤ j)). absurd (true≢false (sym (queued_at js j Queued at) ∙ none_before js j Queued (lt_of_not-le h))))

-- a change at this job or after it leaves those before the first as they were
pub none_before_set : (js ks : List JobState) (j n : ℕ) (s : JobState) → n ≡ before_queued js → n ≤ j → ks ≡ set js j s → AreNotQueued ks n
none_before_set js ks j n s first low is k d h = ap (λ (l : List JobState). is_queued (get_or l k d)) is ∙ ap is_queued (get_or-set_other js j k s d (λ e. absurd (omega arith))) ∙ none_before js k d (omega arith)

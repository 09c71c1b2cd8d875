-- Jobs that have ranges, and have gathered them
use Rattle.std.proofs.Common.{◌≡◌, ℕ, zero, suc, ◌+◌, ◌<◌, ◌≤◌, ◌⊎◌, inl, inr, Bool, true, false, List, [], ◌∷◌, length, set, get_or, slice_get, Some, sym, ◌∙◌, ap, subst, arith, get_or-set_same, get_or-set_other}
use Rattle.std.proofs.lemmas.Bool.{cases_eq}
use Rattle.std.proofs.lemmas.Option.{slice_get-get_or}
use Rattle.phase_run.specs.Work.{IsEachWorked}
use Rattle.round_tables.specs.LayerSum.{LayerSum}
use Rattle.round_tables.specs.Ranges.{RangeView, range_of, gathered_range}
use Rattle.sumcheck_prove.specs.declared.jobs.Job.{Job}
use Rattle.sumcheck_prove.specs.Jobs.{HasRange, HaveRanges, gather_with, work_with, work_of}

-- the job after it has gathered its range
gathered_job : (k : ℕ) (job : Job) (range : RangeView) → HasRange range job → HasRange (gathered_range range) (work_of k job)
gathered_job k job range has = record {
  line = ap (λ l. (work_with k job l).line) has.line ∙ ap (λ s. (gather_with job s).line) has.share ∙ has.line;
  share = ap (λ l. (work_with k job l).share) has.line ∙ ap (λ s. (gather_with job s).share) has.share;
}

pub same_range : (x y : RangeView) → Some x ≡ Some y → x ≡ y
same_range x y e = cc

got : {A : Type 0} (xs : List A) (k : ℕ) (d x : A) → slice_get xs k ≡ Some x → get_or xs k d ≡ x
got [] k d x e = absurd (cc)
got {A} (y ∷ xs) zero d x e = same e
  where
    same : {y x : A} → Some y ≡ Some x → y ≡ x
    same e = cc
got (y ∷ xs) (suc k) d x e = got xs k d x e

module _ (sum : LayerSum) (parts size : ℕ) where
  -- one job more has its range
  pub one_more_range : (done : Bool) (jobs : List Job) (n m : ℕ) (new : Job) → n < length jobs → m ≡ n + 1 → HasRange (range_of sum parts size done n) new → HaveRanges sum parts size done n jobs →
      HaveRanges sum parts size done m (set jobs n new)
  one_more_range done jobs n m new u e here before j job v = at_place (cases_eq j n)
    where
      at_place : (j ≡ n) ⊎ (j ≡ n → ⊥) → HasRange (range_of sum parts size done j) (get_or (set jobs n new) j job)
      at_place (inl h) =
          subst (λ (i : ℕ). HasRange (range_of sum parts size done i) (get_or (set jobs n new) i job)) (sym h)
          (subst (HasRange (range_of sum parts size done n)) (sym (get_or-set_same jobs n new job u)) here)
      at_place (inr d) = subst (HasRange (range_of sum parts size done j)) (sym (get_or-set_other jobs n j new job d)) (before j job (omega (arith, v, e, d)))

  -- jobs that were worked have gathered their ranges
  pub ranges_worked : (given worked : List Job) (n : ℕ) → n ≤ length given → IsEachWorked work_of given worked → HaveRanges sum parts size false n given → HaveRanges sum parts size true n worked
  ranges_worked given worked n all each ranges k job u =
      let x : Job = get_or given k job in
      let at : slice_get given k ≡ Some (get_or given k job) = slice_get-get_or given k job (omega (arith, u, all)) in
      subst (HasRange (range_of sum parts size true k)) (sym (got worked k job (work_of k x) (each k x at)))
      (gathered_job k x (range_of sum parts size false k) (ranges k job u))

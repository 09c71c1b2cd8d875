-- The parts of a line as jobs, and what comes of them
use Rattle.std.proofs.Common.{◌≡◌, ℕ, zero, suc, ◌+◌, ◌-◌, ◌*◌, ◌^◌, ◌<◌, ◌≤◌, Bool, List, [], ◌∷◌, ◌++◌, map, length, take, get_or, slice_get, Option, Some, None, All, if◌then◌else◌, refl, ◌∙◌, ap, ap₂, subst, arith, le-ltb}
use Rattle.std.proofs.lemmas.Nat.{pow-add}
use Rattle.std.proofs.lemmas.List.Elements.{All-head, All-tail}
use Rattle.field_ext.specs.Field.{K}
use Rattle.line_reduce.specs.Parts.{PartOfLine, values_of, part_line, worked_part, joined}
use Rattle.sumcheck_prove.specs.Lines.{LineView}
use Rattle.phase_run.specs.Work.{IsEachWorked}
use Rattle.sumcheck_prove.specs.declared.jobs.Job.{Job}
use Rattle.sumcheck_prove.specs.Jobs.{HasLine, IsLineOver, aimed, aimed_option, work_with, work_of, line_of}

pub joined-same : (f g : ℕ → List K) (n : ℕ) → ((k : ℕ) → k < n → f k ≡ g k) → joined f n ≡ joined g n
joined-same f g zero h = refl
joined-same f g (suc n) h = ap₂ (λ (xs ys : List K). xs ++ ys) (joined-same f g n (λ k u. h k (omega arith))) (h n (omega arith))

module _ (values b c : List K) where
  line_worked : (k : ℕ) (job : Job) (o : Option LineView) → IsLineOver values o → k * 2048 + 2048 ≤ length values → line_of (work_with k job (aimed_option b c o)) ≡ part_line (values_of values k) (take 11 b) (take 11 c)
  line_worked k job None s u = absurd s
  line_worked k job (Some line) s u =
      let p : PartOfLine = record line.part { b = take 11 b; c = take 11 c } in
      ap (λ (vs : List K). (worked_part vs k p).line) s
      ∙ ap (λ (t : Bool). (if t then p else record p { line = part_line (values_of values k) (take 11 b) (take 11 c) }).line) (le-ltb (length values) (k * 2048 + 2048) u)

  -- a job that has a part of the line gives that part's line
  job_worked : (k : ℕ) (job : Job) → HasLine values job → k * 2048 + 2048 ≤ length values → line_of (work_of k (aimed b c job)) ≡ part_line (values_of values k) (take 11 b) (take 11 c)
  job_worked k job s u = line_worked k (aimed b c job) job.line s u

  found : (jobs : List Job) → All (HasLine values) jobs → (k : ℕ) → k < length jobs → (job : Job) × HasLine values job × (slice_get (map (aimed b c) jobs) k ≡ Some (aimed b c job))
  found [] all k u = absurd (omega arith)
  found (job ∷ jobs) all zero u = (job, All-head (HasLine values) job jobs all, refl)
  found (job ∷ jobs) all (suc k) u = found jobs (All-tail (HasLine values) job jobs all) k (omega arith)

  read : (jobs : List Job) (k : ℕ) (job : Job) → slice_get jobs k ≡ Some job → get_or (map line_of jobs) k [] ≡ line_of job
  read [] k job e = absurd (cc)
  read (j ∷ jobs) zero job e = ap line_of (same-some j job e)
    where
      same-some : (x y : Job) → Some x ≡ Some y → x ≡ y
      same-some x y e = cc
  read (j ∷ jobs) (suc k) job e = read jobs k job e

  -- all jobs give the lines of their parts
  lines_worked : (jobs worked : List Job) → All (HasLine values) jobs → IsEachWorked work_of (map (aimed b c) jobs) worked → length jobs * 2048 ≤ length values →
      (k : ℕ) → k < length jobs → get_or (map line_of worked) k [] ≡ part_line (values_of values k) (take 11 b) (take 11 c)
  lines_worked jobs worked all each fits k u =
      let h = found jobs all k u in
      read worked k (work_of k (aimed b c h.0)) (each k (aimed b c h.0) h.2)
      ∙ job_worked k h.0 h.1 (omega arith)

  -- what workers were given, by whatever name
  pub jobs_worked : (jobs given worked : List Job) → given ≡ map (aimed b c) jobs → All (HasLine values) jobs →
      IsEachWorked work_of given worked → length jobs * 2048 ≤ length values → (k : ℕ) → k < length jobs →
      get_or (map line_of worked) k [] ≡ part_line (values_of values k) (take 11 b) (take 11 c)
  jobs_worked jobs given worked is all each fits k u =
      lines_worked jobs worked all (subst (λ (js : List Job). IsEachWorked work_of js worked) is each) fits k u

-- parts of 2 ^ 11 of 2 ^ k values
pub parts_cover : (k n m size : ℕ) → 11 ≤ k → size ≡ 2 ^ k → n ≡ m → m ≡ 2 ^ (k - 11) → n * 2048 ≤ size
parts_cover k n m size u whole same each =
    let again : k ≡ k - 11 + 11 = omega arith in
    let all : size ≡ 2 ^ (k - 11) * 2048 = whole ∙ ap (λ (i : ℕ). 2 ^ i) again ∙ pow-add 2 (k - 11) 11 in
    omega (arith, all, same, each)

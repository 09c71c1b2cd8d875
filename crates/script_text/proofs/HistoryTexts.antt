-- A script whose jobs may be withdrawn takes exactly its texts.
use Rattle.std.proofs.Common.{◌≡◌, ℕ, Bool, true, false, eqb, List, [], ◌∷◌, ◌++◌, Option, Some, None, is_some, if◌then◌else◌, refl, sym, ap, subst, ◌∙◌, append_assoc}
use Rattle.std.proofs.lemmas.List.{append-nil}
use Rattle.std.specs.Prelude.{IfSome}
use Rattle.text_parts.specs.declared.due.DueKind.TheVariants.{Section}
use Rattle.text_parts.specs.Bytes.{initial}
use Rattle.text_parts.specs.Parts.{Taking, given_at, in_order, optional_at, word_at}
use Rattle.text_parts.specs.Exact.{IsExact}
use Rattle.text_parts.proofs.api.Compose.{same_texts}
use Rattle.text_parts.proofs.api.Choice.{FirstIs, IsOther, first_append}
use Rattle.text_parts.proofs.api.Listed.{AreUpTo, More, listed_exact}
use Rattle.text_parts.proofs.api.Optional.{alike_exact}
use Rattle.text_parts.proofs.api.Rows.{any_row, as_row, grouped, lone_word_row, made_row, optional_row}
use Rattle.script_text.specs.declared.script.ScriptJob.{ScriptJob}
use Rattle.script_text.specs.declared.script.MarkedJob.{MarkedJob}
use Rattle.script_text.specs.Scripts.{IsMarkedJob, SpellsHistoryScript, done, job_at, job_initial, job_of, jobs_at, mark, mark_at, mark_text, marked, marked_job_at}
use Rattle.script_text.proofs.ScriptTexts.{job_begins, job_exact}

abbrev UpTo : ℕ → List MarkedJob → List ℕ → Type 0
UpTo = AreUpTo job_initial IsMarkedJob marked_job_at Section done

abbrev WithMore : ℕ → List MarkedJob → List ℕ → Type 0
WithMore = More job_initial IsMarkedJob marked_job_at Section done

-- the mark of the first of some jobs
abbrev mark_of : List MarkedJob → Option (Unit {0})
mark_of [] = None
mark_of (job ∷ jobs) = if job.withdraw then Some tt else None

mark_is : (o : Option (Unit {0})) → (if is_some o then Some tt else None) ≡ o
mark_is None = refl
mark_is (Some u) = refl

mark_back : (b : Bool) → (let o : Option (Unit {0}) = if b then Some tt else None in is_some o) ≡ b
mark_back true = refl
mark_back false = refl

all_fit : (o : Option (Unit {0})) → IfSome o (λ u. Unit {0})
all_fit None = tt
all_fit (Some u) = tt

-- no text of jobs begins as the mark
others_begin : (most : ℕ) (jobs : List MarkedJob) (t : List ℕ) → UpTo most jobs t → FirstIs (IsOther (initial mark)) t
others_begin most [] t h = subst (FirstIs (IsOther (initial mark))) (sym h.1) refl
others_begin most (job ∷ jobs) t h =
    let e = h.1 in
    let m = e.2 in
    subst (FirstIs (IsOther (initial mark))) (sym (e.4 ∙ ap (λ (x : List ℕ). x ++ e.1) (m.2 ∙ ap (λ (x : List ℕ). x ++ mark_text job.withdraw) m.1.4))) refl

-- a job, perhaps a mark, and then the others
abbrev next_at : ℕ → MarkedJob → List ℕ → Taking (List MarkedJob)
next_at most job = in_order (jobs_at marked_job_at most) (λ jobs. given_at (job ∷ jobs))

abbrev mark_then : ℕ → ScriptJob → List ℕ → Taking (List MarkedJob)
mark_then most job = in_order (optional_at (initial mark) (word_at Section mark)) (λ found. next_at most (marked job (is_some found)))

regrouped : (most : ℕ) (bytes : List ℕ) → in_order marked_job_at (next_at most) bytes ≡ in_order job_at (mark_then most) bytes
unfolding marked_job_at mark_at
regrouped most bytes = grouped job_at (λ job. in_order mark_at (λ withdraw. given_at (marked job withdraw))) (next_at most) bytes ∙ (λ i. in_order job_at (λ job rest. inner job rest i) bytes)
  where
    inner : (job : ScriptJob) (rest : List ℕ) → in_order (in_order mark_at (λ withdraw. given_at (marked job withdraw))) (next_at most) rest ≡ mark_then most job rest
    inner job rest = grouped mark_at (λ withdraw. given_at (marked job withdraw)) (next_at most) rest
        ∙ grouped (optional_at (initial mark) (word_at Section mark)) (λ found. given_at (is_some found)) (λ withdraw. next_at most (marked job withdraw)) rest

marked_step : (most : ℕ) → IsExact (UpTo most) (jobs_at marked_job_at most) → IsExact (WithMore most) (in_order marked_job_at (next_at most))
marked_step most exact_others = same_texts _ (WithMore most) (in_order marked_job_at (next_at most))
    (λ jobs text h.
    let job = h.way.0 in
    let s = h.way.1 in
    let others = h.way.2.1 in
    let withdraw = is_some (mark_of jobs) in
    let after = h.holds.1.2 in (
      marked job withdraw,
      others.0,
      after.1,
      s ++ mark_text withdraw,
      others.1,
      (s, h.holds.0, refl),
      after.0,
      h.parts ∙ ap (λ (x : List ℕ). s ++ (mark_text withdraw ++ x)) (append-nil others.1) ∙ sym (append_assoc s (mark_text withdraw) others.1),
    ))
    (λ jobs text h.
    let job = h.0 in
    let s = h.5.0 in
    let t = h.4 in
    let same : is_some (mark_of jobs) ≡ job.withdraw = ap (λ (x : List MarkedJob). is_some (mark_of x)) h.2 ∙ mark_back job.withdraw in
    record {
      way = (job_of job, s, (tt, (h.1, t, tt)));
      holds = (h.5.1, (tt, all_fit (mark_of jobs), (h.6, h.2 ∙ ap (λ (b : Bool). marked (job_of job) b ∷ h.1) (sym same))));
      parts = h.7 ∙ ap (λ (x : List ℕ). x ++ t) h.5.2 ∙ append_assoc s (mark_text job.withdraw) t
          ∙ ap (λ (b : Bool). s ++ (mark_text b ++ t)) (sym same) ∙ ap (λ (x : List ℕ). s ++ (mark_text (is_some (mark_of jobs)) ++ x)) (sym (append-nil t));
    })
    (alike_exact _ (in_order marked_job_at (next_at most)) (in_order job_at (mark_then most)) (regrouped most)
    (any_row (as_row job_exact) (λ job s g.
    optional_row mark_of (λ u found. mark_text (is_some found)) (λ u. refl) (λ u v. refl) (lone_word_row Section mark) (λ found.
    any_row (as_row exact_others) (λ others t k. made_row (marked job (is_some found) ∷ others)))
    (λ found w jobs k. ap mark_of k.1 ∙ mark_is found)
    (λ found. Unit {0}) (λ found. tt) (initial mark) (λ u v. refl)
    (λ w jobs k. first_append (IsOther (initial mark)) w.1 [] (others_begin most w.0 w.1 k.0)))))

pub history_exact : IsExact (λ jobs text. SpellsHistoryScript text jobs) (jobs_at marked_job_at 256)
history_exact = same_texts (UpTo 256) (λ jobs text. SpellsHistoryScript text jobs) (jobs_at marked_job_at 256)
    (λ jobs text h. record { count = h.0; text = h.1 })
    (λ jobs text h. (h.count, h.text))
    (listed_exact job_initial IsMarkedJob marked_job_at Section done refl
    (λ job t h. subst (FirstIs (λ b. eqb b job_initial)) (sym h.2) (first_append (λ b. eqb b job_initial) h.0 (mark_text job.withdraw) (job_begins (job_of job) h.0 h.1)))
    marked_step 256)

-- The outcomes of a script's jobs, where none is out of memory, are the replies to the script.
use Rattle.std.proofs.Common.{◌≡◌, ◌≢◌, ℕ, List, [], ◌∷◌, ◌++◌, length, length-append, map, Some, sym, ap, ◌∙◌, subst, arith}
use Rattle.std.specs.List.{slice_get}
use Rattle.std.proofs.lemmas.List.{length-map}
use Rattle.case_text.specs.Served.{Served}
use Rattle.script_text.specs.declared.script.ScriptJob.{ScriptJob}
use mathlib.Core.Logic.{dite}
use native.Mathlib.Decide.{ℕ_discrete}
use Rattle.job_core.proofs.api.Places.{some_eq, get_last, get_snoc_else, get_map}
use Rattle.prove_serve.specs.declared.outcome.HistoryOutcome.{HistoryOutcome}
use Rattle.job_table.specs.declared.event.Outcome.{Outcome}
use Rattle.prove_serve.specs.Script.{AreOutcomes}
use Rattle.script_prove.specs.declared.prover.JobReply.{JobReply}
use Rattle.script_prove.specs.Served.{IsServed, AreServed, AreReportedTo, IsReportedTo, numbered_job, answer_of}

pub are_served : (script : List ScriptJob) (jobs : List (ℕ × ScriptJob)) (outcomes : List (Outcome JobReply)) (served : List Served) → jobs ≡ map numbered_job script
    → AreOutcomes (λ (reply : JobReply) (job : ScriptJob). IsServed job reply.job) jobs outcomes → outcomes ≡ map answer_of served → AreServed script served
are_served script jobs outcomes served numbered fits answers = record {
  as_many = sym (length-map served answer_of) ∙ ap length (sym answers) ∙ fits.as_many ∙ ap length numbered ∙ length-map script numbered_job;
  each = λ k job reply at at'. fits.each k (numbered_job job) (answer_of reply)
      (ap (λ (l : List (ℕ × ScriptJob)). slice_get l k) numbered ∙ get_map numbered_job script k job at)
      (ap (λ (l : List (Outcome JobReply)). slice_get l k) answers ∙ get_map answer_of served k reply at');
}

-- one reply more, to the client at its place
pub told_more : (clients : List ℕ) (outcomes : List (HistoryOutcome JobReply)) (served : List Served) (o : HistoryOutcome JobReply) (reply : Served) (k : ℕ) (client : ℕ) → AreReportedTo clients outcomes served → k ≡ length outcomes → slice_get clients k ≡ Some client → IsReportedTo client o reply
    → AreReportedTo clients (outcomes ++ o ∷ []) (served ++ reply ∷ [])
told_more clients outcomes served o reply k client f place here reported = record {
  as_many = let a = length-append outcomes (o ∷ []) in let b = length-append served (reply ∷ []) in let m = f.as_many in omega arith;
  each = λ n c x r at at' at''. dite (ℕ_discrete n (length outcomes))
      (λ (is : n ≡ length outcomes).
      let same : o ≡ x = some_eq o x (sym (get_last outcomes o) ∙ ap (slice_get (outcomes ++ o ∷ [])) (sym is) ∙ at') in
      let one : reply ≡ r = some_eq reply r (sym (get_last served reply) ∙ ap (slice_get (served ++ reply ∷ [])) (f.as_many ∙ sym is) ∙ at'') in
      let own : client ≡ c = some_eq client c (sym here ∙ ap (slice_get clients) (place ∙ sym is) ∙ at) in
      subst (λ (z : ℕ × HistoryOutcome JobReply × Served). IsReportedTo z.0 z.1 z.2) (λ i. (own i, same i, one i)) reported)
      (λ (no : n ≢ length outcomes). f.each n c x r at (sym (get_snoc_else outcomes n o no) ∙ at') (sym (get_snoc_else served n reply (λ e. no (e ∙ f.as_many))) ∙ at''));
}

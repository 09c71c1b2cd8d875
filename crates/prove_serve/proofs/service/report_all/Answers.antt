use Rattle.std.proofs.Common.{rules, ◌≡◌, inl, inr, ⊎_elim, vec_len, ◌++◌, ◌∷◌, [], length, sym, ap, ◌∙◌, subst, arith, append_assoc, append-nil}
use Rattle.std.specs.Vec.Iter.{into_iter_items}
use Rattle.std.proofs.lemmas.List.{nil_from_length as nothing_left}
use Rattle.job_table.specs.declared.slot.Seen.{Seen}
use Rattle.prove_serve.specs.declared.job.Job.{Job}
use Rattle.prove_serve.specs.declared.job.Reply.{Reply}
use Rattle.prove_serve.specs.Reported.{AreReported}
use Rattle.prove_serve.proofs.Scripts.{told_more}
use Rattle.prove_serve.proofs.service.report_all.Goals as goal

pub loop-job-preserved : goal.loop-job-preserved
loop-job-preserved g c = let at = c.loop-job in let i = at.invariant in let x : Job g.row.C.Denot × Seen (Reply g.row.A.Denot) = (c.in-Some.job, c.in-Some.seen) in
    let steps : into_iter_items at.job-iterator ≡ x ∷ into_iter_items c.next.new.self = c.in-Some.ensures.steps.0 in
    let gone = c.in-Some.ensures.steps.1 in let short = ap length steps in let left = i.left in
    let mid = at.outcomes.items in let new = c.put_at.new.list.items in let same : length new ≡ length mid = search rules in let whole : vec_len at.outcomes ≡ length mid = search rules in record {
      all = append_assoc at.yielded (x ∷ []) (into_iter_items c.next.new.self) ∙ ap (λ l. at.yielded ++ l) (sym steps) ∙ i.all;
      left = omega arith;
      long = c.put_at.ensures.long ∙ i.long;
      reported = told_more at.yielded x mid new i.reported (⊎_elim (λ a. inl a) (λ far. inr (omega arith)) (rw c.reported.ensures at c.put_at.ensures.at)) same c.put_at.ensures.others;
    }

pub returns-clause-each : goal.returns-clause-each
returns-clause-each g c = let at = c.loop-job in let i = at.invariant in let none = nothing_left (into_iter_items at.job-iterator) (sym i.left ∙ c.in-None.ensures.steps.0) in
    let all : at.yielded ≡ c.args.jobs.items = sym (append-nil at.yielded) ∙ ap (λ l. at.yielded ++ l) (sym none) ∙ i.all ∙ c.into_iter-job-iterator.ensures.into_iter_gives.0 in
    subst (λ l. AreReported l at.outcomes.items) all i.reported

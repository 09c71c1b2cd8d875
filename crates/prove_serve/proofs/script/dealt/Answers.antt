use Rattle.std.proofs.Common.{rules, ◌≡◌, ◌<◌, ◌++◌, ◌∷◌, [], length, Some, sym, ap, ◌∙◌, subst, arith, append_assoc, append-nil}
use Rattle.std.specs.List.{slice_get}
use Rattle.std.specs.Vec.Iter.{into_iter_items}
use Rattle.job_core.proofs.api.Places.{some_here}
use Rattle.std.proofs.lemmas.List.{nil_from_length as nothing_left}
use Rattle.prove_serve.specs.Script.{AreOf, AreDuties, AreDealt, jobs_in}
use Rattle.prove_serve.proofs.Sounds.{first_of, rest_of}
use Rattle.prove_serve.proofs.Scripts.{duties_more, duties_set, jobs_in_more, dealt_more}
use Rattle.prove_serve.proofs.script.dealt.Goals as goal

pub loop-preserved : goal.loop-preserved
loop-preserved g c = let at = c.loop in let i = at.invariant in record {
  many = search rules;
  duties = subst (AreDuties c.args.jobs.items c.args.clients) (sym c.in_ok-push.ensures.items) (duties_more c.args.jobs.items c.args.clients at.duties.items _ i.duties (search rules) (search rules));
  none = ap jobs_in c.in_ok-push.ensures.items ∙ jobs_in_more at.duties.items _ (search rules) i.none;
}

pub give-requires : goal.give-requires
give-requires g c = let at = c.loop-job in let i = at.invariant in
    let t = c.thread_of-thread.result in let low : t < length at.duties.items = let many = i.many in let some = c.thread_of-thread.ensures.within in search rules in
    let old : slice_get at.duties.items t ≡ Some c.index_mut.result.now = some_here at.duties.items t c.index_mut.result.now low ∙ ap (λ v. Some v) (sym c.index_mut.ensures.value) in
    (i.duties t c.index_mut.result.now old).0.capacity

pub loop-job-preserved : goal.loop-job-preserved
loop-job-preserved g c = let at = c.loop-job in let i = at.invariant in let script = c.args.jobs.items in let x = c.in-Some.job in
    let steps : into_iter_items at.job-iterator ≡ x ∷ into_iter_items c.next.new.self = c.in-Some.ensures.steps.0 in
    let gone = c.in-Some.ensures.steps.1 in let short = ap length steps in let left = i.left in
    let jobs : AreOf script (x ∷ into_iter_items c.next.new.self) = subst (AreOf script) steps i.jobs in
    let t = c.thread_of-thread.result in let low : t < length at.duties.items = let many = i.many in let some = c.thread_of-thread.ensures.within in search rules in
    let old : slice_get at.duties.items t ≡ Some c.index_mut.result.now = some_here at.duties.items t c.index_mut.result.now low ∙ ap (λ v. Some v) (sym c.index_mut.ensures.value) in
    let more = c.in_ok-give.ensures.jobs in record {
      all = append_assoc at.yielded (x ∷ []) (into_iter_items c.next.new.self) ∙ ap (λ l. at.yielded ++ l) (sym steps) ∙ i.all;
      left = omega arith;
      many = search rules;
      duties = duties_set script c.args.clients at.duties.items t c.index_mut.result.now c.give.new.duty x c.thread_of-thread.ensures.within old i.duties (first_of script x (into_iter_items c.next.new.self) jobs) more c.in_ok-give.ensures.capacity;
      jobs = rest_of script x (into_iter_items c.next.new.self) jobs;
      dealt = dealt_more c.args.clients t at.yielded at.duties.items c.index_mut.result.now c.give.new.duty x i.dealt (sym c.thread_of-thread.ensures.thread) old more;
    }

pub returns-clause-dealt : goal.returns-clause-dealt
returns-clause-dealt g c = let at = c.loop-job in let i = at.invariant in let none = nothing_left (into_iter_items at.job-iterator) (sym i.left ∙ c.in-None.ensures.steps.0) in
    let all : at.yielded ≡ c.args.jobs.items = sym (append-nil at.yielded) ∙ ap (λ l. at.yielded ++ l) (sym none) ∙ i.all ∙ c.into_iter-job-iterator.ensures.into_iter_gives.0 in
    subst (λ l. AreDealt c.args.clients l at.duties.items) all i.dealt

use Rattle.std.proofs.Common.{rules, ◌≡◌, ℕ, Bool, ◌++◌, ◌∷◌, [], List, length, map, sym, ap, ◌∙◌, subst, arith, append_assoc, append-nil, length-append}
use Rattle.std.specs.Vec.Iter.{into_iter_items}
use Rattle.std.proofs.lemmas.List.{map-append}
use Rattle.std.proofs.lemmas.List.{nil_from_length as nothing_left}
use Rattle.script_text.specs.declared.script.MarkedJob.{MarkedJob}
use Rattle.script_text.specs.declared.script.ScriptJob.{ScriptJob}
use Rattle.script_prove.specs.Served.{marked_job}
use Rattle.script_prove.proofs.history.marked.Goals as goal

pub loop-job-preserved : goal.loop-job-preserved
loop-job-preserved c = let at = c.loop-job in let i = at.invariant in let x : MarkedJob = c.in-Some.job in
    let steps : into_iter_items at.job-iterator ≡ x ∷ into_iter_items c.next.new.self = c.in-Some.ensures.steps.0 in
    let gone = c.in-Some.ensures.steps.1 in let short = ap length steps in let left = i.left in let many = i.many in let long = length-append at.yielded (x ∷ []) in
    let longer = length-append at.jobs.items (marked_job x ∷ []) in let pushed = ap length c.push_reserved.ensures.items in record {
      all = append_assoc at.yielded (x ∷ []) (into_iter_items c.next.new.self) ∙ ap (λ l. at.yielded ++ l) (sym steps) ∙ i.all;
      left = omega arith;
      many = omega arith;
      capacity = search rules;
      done = c.push_reserved.ensures.items ∙ ap (λ (l : List (ℕ × ScriptJob × Bool)). l ++ marked_job x ∷ []) i.done ∙ sym (map-append marked_job at.yielded (x ∷ []));
    }

pub returns : goal.returns
returns c = let at = c.loop-job in let i = at.invariant in let none = nothing_left (into_iter_items at.job-iterator) (sym i.left ∙ c.in-None.ensures.steps.0) in
    let all : at.yielded ≡ c.args.script.items = sym (append-nil at.yielded) ∙ ap (λ l. at.yielded ++ l) (sym none) ∙ i.all ∙ c.into_iter-job-iterator.ensures.into_iter_gives.0 in
    subst (λ (l : List MarkedJob). at.jobs.items ≡ map marked_job l) all i.done

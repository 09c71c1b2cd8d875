use Rattle.std.proofs.Common.{◌≡◌, ◌++◌, List, map, sym, ap, ◌∙◌, subst, append-nil}
use Rattle.std.specs.Vec.Iter.{into_iter_items}
use Rattle.std.proofs.lemmas.List.{nil_from_length as nothing_left}
use Rattle.job_table.specs.declared.event.Outcome.{Outcome}
use Rattle.script_prove.specs.declared.prover.JobReply.{JobReply}
use Rattle.script_prove.specs.Served.{answer_of}
use Rattle.script_prove.proofs.script.served.Goals as goal

pub returns : goal.returns
returns c = let at = c.loop-outcome in let i = at.invariant in let none = nothing_left (into_iter_items at.outcome-iterator) (sym i.left ∙ c.in-None.ensures.steps.0) in
    let all : at.yielded ≡ c.args.outcomes.items = sym (append-nil at.yielded) ∙ ap (λ l. at.yielded ++ l) (sym none) ∙ i.all ∙ c.into_iter-outcome-iterator.ensures.into_iter_gives.0 in
    subst (λ (l : List (Outcome JobReply)). l ≡ map answer_of at.served.items) all i.done

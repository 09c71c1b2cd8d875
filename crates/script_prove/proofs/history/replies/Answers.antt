use Rattle.std.proofs.Common.{rules, ◌≡◌, ◌<◌, ◌++◌, ◌∷◌, [], length, Some, sym, ap, ◌∙◌, subst, arith, append_assoc, append-nil, length-append}
use Rattle.std.specs.Vec.Iter.{into_iter_items}
use Rattle.job_core.proofs.api.Places.{some_here}
use Rattle.std.proofs.lemmas.List.{nil_from_length as nothing_left}
use Rattle.script_prove.specs.Served.{AreReportedTo}
use Rattle.script_prove.proofs.Replies.{told_more}
use Rattle.script_prove.proofs.history.replies.Goals as goal

pub loop-outcome-preserved : goal.loop-outcome-preserved
loop-outcome-preserved c = let at = c.loop-outcome in let i = at.invariant in let x = c.in-Some.outcome in
    let steps : into_iter_items at.outcome-iterator ≡ x ∷ into_iter_items c.next.new.self = c.in-Some.ensures.steps.0 in
    let gone = c.in-Some.ensures.steps.1 in let short = ap length steps in let left = i.left in let place = i.place in let long = length-append at.yielded (x ∷ []) in
    let all = ap length (i.all ∙ c.into_iter-outcome-iterator.ensures.into_iter_gives.0) in let parts = length-append at.yielded (into_iter_items at.outcome-iterator) in let same = c.requires in
    let within : at.place < length c.args.clients.now = omega arith in record {
      all = append_assoc at.yielded (x ∷ []) (into_iter_items c.next.new.self) ∙ ap (λ l. at.yielded ++ l) (sym steps) ∙ i.all;
      left = omega arith;
      place = omega arith;
      capacity = search rules;
      reported = subst (AreReportedTo c.args.clients.now (at.yielded ++ x ∷ [])) (sym c.push_reserved.ensures.items)
          (told_more c.args.clients.now at.yielded at.served.items x c.in_ok-reported.field-0 at.place c.number_at.result i.reported place (some_here c.args.clients.now at.place 0 within ∙ ap (λ v. Some v) (sym c.number_at.ensures)) c.in_ok-reported.ensures);
    }

pub returns : goal.returns
returns c = let at = c.loop-outcome in let i = at.invariant in let none = nothing_left (into_iter_items at.outcome-iterator) (sym i.left ∙ c.in-None.ensures.steps.0) in
    let all : at.yielded ≡ c.args.outcomes.items = sym (append-nil at.yielded) ∙ ap (λ l. at.yielded ++ l) (sym none) ∙ i.all ∙ c.into_iter-outcome-iterator.ensures.into_iter_gives.0 in
    subst (λ l. AreReportedTo c.args.clients.now l at.served.items) all i.reported

use Rattle.std.proofs.Common.{rules, ◌≡◌, ℕ, Bool, ◌++◌, ◌∷◌, [], List, length, map, sym, ap, ◌∙◌, subst, arith, append_assoc, append-nil, length-append}
use Rattle.std.specs.Vec.Iter.{into_iter_items}
use Rattle.std.proofs.lemmas.List.{map-append}
use Rattle.std.proofs.lemmas.List.{nil_from_length as nothing_left}
use Rattle.prove_serve.specs.Script.{unmarked}
use Rattle.prove_serve.proofs.script.unmarked.Goals as goal

pub loop-client-preserved : goal.loop-client-preserved
loop-client-preserved g c = let at = c.loop-client in let i = at.invariant in let x : ℕ × g.row.C.Denot = (c.in-Some.client, c.in-Some.case) in
    let steps : into_iter_items at.client-iterator ≡ x ∷ into_iter_items c.next.new.self = c.in-Some.ensures.steps.0 in
    let gone = c.in-Some.ensures.steps.1 in let short = ap length steps in let left = i.left in let many = i.many in let long = length-append at.yielded (x ∷ []) in
    let longer = length-append at.all.items (unmarked x ∷ []) in let pushed = ap length c.push_reserved.ensures.items in record {
      all = append_assoc at.yielded (x ∷ []) (into_iter_items c.next.new.self) ∙ ap (λ l. at.yielded ++ l) (sym steps) ∙ i.all;
      left = omega arith;
      many = omega arith;
      capacity = search rules;
      done = c.push_reserved.ensures.items ∙ ap (λ (l : List (ℕ × g.row.C.Denot × Bool)). l ++ unmarked x ∷ []) i.done ∙ sym (map-append unmarked at.yielded (x ∷ []));
    }

pub returns : goal.returns
returns g c = let at = c.loop-client in let i = at.invariant in let none = nothing_left (into_iter_items at.client-iterator) (sym i.left ∙ c.in-None.ensures.steps.0) in
    let all : at.yielded ≡ c.args.jobs.items = sym (append-nil at.yielded) ∙ ap (λ l. at.yielded ++ l) (sym none) ∙ i.all ∙ c.into_iter-client-iterator.ensures.into_iter_gives.0 in
    subst (λ l. at.all.items ≡ map unmarked l) all i.done

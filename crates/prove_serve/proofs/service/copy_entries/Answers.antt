use Rattle.std.proofs.Common.{rules, ◌≡◌, ◌++◌, ◌∷◌, [], List, length, sym, ap, ◌∙◌, subst, arith, append_assoc, append-nil, length-append}
use Rattle.std.specs.Vec.Iter.{into_iter_items}
use Rattle.job_core.specs.declared.entry.Entry.{Entry}
use Rattle.job_table.specs.History.{entries_of}
use Rattle.job_table.proofs.api.Kept.{entries_snoc}
use Rattle.std.proofs.lemmas.List.{nil_from_length as nothing_left}
use Rattle.prove_serve.proofs.service.copy_entries.Goals as goal

pub loop-event-preserved : goal.loop-event-preserved
loop-event-preserved g c = let at = c.loop-event in let i = at.invariant in let x = c.in-Some.event in
    let steps : into_iter_items at.event-iterator ≡ x ∷ into_iter_items c.next.new.self = c.in-Some.ensures.steps.0 in
    let gone = c.in-Some.ensures.steps.1 in let short = ap length steps in let left = i.left in let many = i.many in let long = length-append at.yielded (x ∷ []) in
    let pushed = ap length c.push_reserved.ensures.items in let longer = length-append at.entries.items (c.entry.result ∷ []) in record {
      all = append_assoc at.yielded (x ∷ []) (into_iter_items c.next.new.self) ∙ ap (λ l. at.yielded ++ l) (sym steps) ∙ i.all;
      left = omega arith;
      many = omega arith;
      capacity = search rules;
      done = c.push_reserved.ensures.items ∙ ap (λ (l : List Entry). l ++ c.entry.result ∷ []) i.done ∙ ap (λ (e : Entry). entries_of at.yielded ++ e ∷ []) c.entry.ensures ∙ sym (entries_snoc at.yielded x);
    }

pub returns : goal.returns
returns g c = let at = c.loop-event in let i = at.invariant in let none = nothing_left (into_iter_items at.event-iterator) (sym i.left ∙ c.in-None.ensures.steps.0) in
    let all : at.yielded ≡ c.args.events.items = sym (append-nil at.yielded) ∙ ap (λ l. at.yielded ++ l) (sym none) ∙ i.all ∙ c.into_iter-event-iterator.ensures.into_iter_gives.0 in
    subst (λ l. at.entries.items ≡ entries_of l) all i.done

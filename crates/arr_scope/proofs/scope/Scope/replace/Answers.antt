use Rattle.std.proofs.Common.{ℕ, Some, set, sym, ap, subst, ◌∙◌, arith}
use Rattle.arr_scope.specs.declared.bound.Bound.{Bound}
use Rattle.arr_scope.specs.Places.{Answers}
use Rattle.arr_scope.specs.Scope.{Names, binding_of, place_of, with_binding}
use Rattle.arr_scope.proofs.Places.{place-below, binding-at, binding-missing, with_binding-at, with_binding-missing, answers-with_binding}
use Rattle.arr_scope.proofs.scope.Scope.replace.Goals as goal

pub index_mut-requires : goal.index_mut-requires
index_mut-requires g c =
    let below = place-below c.in-Some.place c.args.name c.self.inside.names.items (ap (place_of c.args.name) c.self.view_is ∙ sym c.place.ensures ∙ c.in-Some.is) in
    omega (arith, below, c.self.inside.names.ok.0)

pub invariant_of-self : goal.invariant_of-self
invariant_of-self g c = λ long.
    let here = ap (place_of c.args.name) c.self.view_is ∙ sym c.place.ensures ∙ c.in-Some.is in
    subst (λ (names : Names g.row.A.Denot). Answers c.self.inside.places.items names)
    (with_binding-at c.in-Some.place c.args.name c.args.new c.self.inside.names.items here ∙ ap (λ (entry : ℕ × Bound g.row.A.Denot). set c.self.inside.names.items c.in-Some.place entry) (sym c.replace.ensures.after))
    (answers-with_binding c.self.inside.places.items c.args.name c.args.new c.self.inside.names.items (c.self.invariant long))

pub returns-in-Some-clause-old : goal.returns-in-Some-clause-old
returns-in-Some-clause-old g c =
    let here = ap (place_of c.args.name) c.self.view_is ∙ sym c.place.ensures ∙ c.in-Some.is in
    ap (λ (entry : ℕ × Bound g.row.A.Denot). Some entry.1) (c.replace.ensures.value ∙ c.index_mut.ensures.value)
    ∙ sym (binding-at c.in-Some.place c.args.name c.self.inside.names.items c.index_mut.result.now here)
    ∙ ap (binding_of c.args.name) c.self.view_is

pub returns-in-Some-clause-new : goal.returns-in-Some-clause-new
returns-in-Some-clause-new g c =
    let here = ap (place_of c.args.name) c.self.view_is ∙ sym c.place.ensures ∙ c.in-Some.is in
    ap (λ (entry : ℕ × Bound g.row.A.Denot). set c.self.inside.names.items c.in-Some.place entry) c.replace.ensures.after
    ∙ sym (with_binding-at c.in-Some.place c.args.name c.args.new c.self.inside.names.items here)
    ∙ ap (with_binding c.args.name c.args.new) c.self.view_is

pub returns-in-None-clause-old : goal.returns-in-None-clause-old
returns-in-None-clause-old g c =
    sym (binding-missing c.args.name c.self.inside.names.items (ap (place_of c.args.name) c.self.view_is ∙ sym c.place.ensures ∙ c.in-None.is))
    ∙ ap (binding_of c.args.name) c.self.view_is

pub returns-in-None-clause-new : goal.returns-in-None-clause-new
returns-in-None-clause-new g c =
    sym c.self.view_is
    ∙ sym (with_binding-missing c.args.name c.args.new c.self.inside.names.items (ap (place_of c.args.name) c.self.view_is ∙ sym c.place.ensures ∙ c.in-None.is))
    ∙ ap (with_binding c.args.name c.args.new) c.self.view_is

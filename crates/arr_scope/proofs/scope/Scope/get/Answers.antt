use Rattle.std.proofs.Common.{ℕ, Some, sym, ap, ◌∙◌, arith}
use Rattle.arr_scope.specs.declared.bound.Bound.{Bound}
use Rattle.arr_scope.specs.Scope.{binding_of, place_of}
use Rattle.arr_scope.proofs.Places.{place-below, binding-at, binding-missing}
use Rattle.arr_scope.proofs.scope.Scope.get.Goals as goal

pub index-requires : goal.index-requires
index-requires g c =
    let below = place-below c.in-Some.place c.args.name c.self.inside.names.items (ap (place_of c.args.name) c.self.view_is ∙ sym c.place.ensures ∙ c.in-Some.is) in
    omega (arith, below, c.self.inside.names.ok.0)

pub returns-in-Some : goal.returns-in-Some
returns-in-Some g c =
    ap (λ (entry : ℕ × Bound _). Some entry.1) c.index.ensures
    ∙ sym (binding-at c.in-Some.place c.args.name c.self.inside.names.items c.index.result.now (ap (place_of c.args.name) c.self.view_is ∙ sym c.place.ensures ∙ c.in-Some.is))
    ∙ ap (binding_of c.args.name) c.self.view_is

pub returns-in-None : goal.returns-in-None
returns-in-None g c =
    sym (binding-missing c.args.name c.self.inside.names.items (ap (place_of c.args.name) c.self.view_is ∙ sym c.place.ensures ∙ c.in-None.is))
    ∙ ap (binding_of c.args.name) c.self.view_is

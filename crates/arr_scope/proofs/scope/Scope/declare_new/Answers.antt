use Rattle.std.proofs.lemmas.Grind.{common_steps}
use Rattle.std.proofs.Common.{ℕ, List, [], ◌∷◌, ◌++◌, Option, Some, sym, ap, subst, ◌∙◌, set, rules, arith}
use Rattle.arr_scope.specs.Places.{Answers}
use Rattle.arr_scope.specs.Scope.{Names, place_of}
use Rattle.arr_scope.proofs.Places.{declared_new}
use Rattle.arr_scope.proofs.scope.Scope.declare_new.Goals as goal

pub invariant_of-self-2 : goal.invariant_of-self-2
invariant_of-self-2 g c = λ long.
    let place = c.len-place.ensures ∙ c.self.inside.names.ok.0 in
    subst (λ (names : Names _). Answers c.set_place.new.places.items names) (sym c.in_ok-push.ensures.items)
    (subst (λ (places : List (Option ℕ)). Answers places (c.self.inside.names.items ++ (c.args.name, c.args.binding) ∷ [])) (sym (c.set_place.ensures ∙ ap (λ (place : ℕ). set c.extend_places.new.places.items c.args.name (Some place)) place))
    (declared_new c.self.inside.names.items c.args.name c.args.binding c.extend_places.new.places.items (λ name. c.in_ok-extend_places.ensures.same name ∙ c.self.invariant long name)
    (ap (place_of c.args.name) c.self.view_is ∙ c.requires) c.in_ok-extend_places.ensures.capacity))

pub invariant_of-self : goal.invariant_of-self
invariant_of-self g c = search rules

pub returns-in_err-extend_places : goal.returns-in_err-extend_places
returns-in_err-extend_places g c = search rules

pub invariant_of-self-in_err-push : goal.invariant_of-self-in_err-push
invariant_of-self-in_err-push g c = grind (arith, common_steps)

pub returns-in_err-push : goal.returns-in_err-push
returns-in_err-push g c = search rules

pub returns : goal.returns
returns g c = search rules

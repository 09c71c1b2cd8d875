use Rattle.std.proofs.Common.{sym, subst}
use Rattle.std.specs.Prelude.{IsSome}
use Rattle.arr_scope.specs.Places.{Answers}
use Rattle.arr_scope.specs.Scope.{Names, place_of}
use Rattle.arr_scope.proofs.Places.{declared_again}
use Rattle.arr_scope.proofs.scope.Scope.declare_again.Goals as goal

pub invariant_of-self-2 : goal.invariant_of-self-2
invariant_of-self-2 g c = λ long.
    subst (λ (names : Names _). Answers c.self.inside.places.items names) (sym c.in_ok-push.ensures.items)
    (declared_again c.self.inside.names.items c.args.name c.args.binding c.self.inside.places.items (c.self.invariant long)
    (subst (λ (names : Names _). IsSome (place_of c.args.name names)) (sym c.self.view_is) c.requires))

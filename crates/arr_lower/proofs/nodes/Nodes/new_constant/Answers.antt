use Rattle.std.proofs.Common.{length, arith, subst, sym, ap, ◌∙◌}
use Rattle.std.specs.List.{position}
use Rattle.std.proofs.lemmas.List.{length_push}
use Rattle.node_core.specs.declared.node.Node.TheVariants.{Constant}
use Rattle.arr_lower.specs.ConstantPlaces.{Answers}
use Rattle.arr_lower.specs.Operations.{is_constant}
use Rattle.arr_lower.proofs.PlacesKept.{answers_more}
use Rattle.arr_lower.proofs.nodes.Nodes.new_constant.Goals as goal

pub invariant_of-self-in-Ok : goal.invariant_of-self-in-Ok
invariant_of-self-in-Ok c =
    let place = c.in_ok-place.ensures.number ∙ ap length (sym c.self.view_is) in (
      omega (arith, place, c.in_ok-place.ensures.capacity, length_push c.self.inside.nodes.items (Constant c.args.constant)),
      subst (Answers c.insert.new.self) (sym c.in_ok-push.ensures.items)
          (answers_more c.self.inside.places c.insert.new.self c.self.inside.nodes.items c.args.constant c.value.result _ c.self.invariant.1
          (ap (position (is_constant c.args.constant)) c.self.view_is ∙ c.requires)
          place c.value.ensures c.in-Ok.ensures.updates.0),
    )

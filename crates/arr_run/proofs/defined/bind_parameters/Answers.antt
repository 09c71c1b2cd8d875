use Rattle.std.proofs.lemmas.Grind.{common_steps}
use Rattle.std.proofs.Common.{◌+◌, ◌++◌, drop, reverse, sym, ap, ◌∙◌, rules, arith}
use Rattle.std.proofs.lemmas.List.{nil_from_length}
use Rattle.arr_run.specs.Expression.{parameters_bound}
use Rattle.arr_scope.specs.Scope.{Names}
use Rattle.arr_run.proofs.Parameters.{numbers, bound_more, bound_over}
use Rattle.arr_run.proofs.defined.bind_parameters.Goals.{in-Some+in_ok-declare, in_default}
use Rattle.arr_run.proofs.defined.bind_parameters.Goals as goal

pub each-preserved : goal.each-preserved
each-preserved g c =
    let parameters = c.args.parameters.now in
    let place = c.each.parameter-index in
    elim c.match-pop.branch [
      | in-Some+in_ok-declare w ↦
          c.each.invariant
          ∙ bound_more parameters place _ c.each.names c.pop.new.self.items c.each.left.items (w.in-Some.shape, w.in-Some.array) c.each-test.true w.in-Some.ensures.items
          ∙ ap (λ (names : Names g.row.A.Denot). names ++ parameters_bound (numbers (drop (place + 1) parameters)) (reverse c.pop.new.self.items)) (sym (w.names-is ∙ w.in_ok-declare.ensures.declared))
      | in_default w ↦
          c.each.invariant
          ∙ bound_over (numbers (drop place parameters)) (numbers (drop (place + 1) parameters)) c.each.names c.match-pop.names c.each.left.items c.pop.new.self.items
          (nil_from_length c.each.left.items (sym c.each.left.ok.0 ∙ w.in_default.ensures.cases.0)) (nil_from_length c.pop.new.self.items (sym c.pop.new.self.ok.0 ∙ w.in_default.ensures.cases.1)) w.names-is
    ]

pub each-init : goal.each-init
each-init g c = grind (arith, common_steps)

pub offset_bounds-parameters-parameter-index : goal.offset_bounds-parameters-parameter-index
offset_bounds-parameters-parameter-index g c = search rules

pub same-names : goal.same-names
same-names g c = search rules

pub returns-in_err-declare : goal.returns-in_err-declare
returns-in_err-declare g c = search rules

pub returns : goal.returns
returns g c = grind (arith, common_steps)

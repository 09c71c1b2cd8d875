use Rattle.std.proofs.Common.{sym, ◌∙◌}
use Rattle.arr_scope.specs.Scope.{with_binding}
use Rattle.arr_scope.specs.declared.bound.Bound.TheVariants.{Value}
use Rattle.arr_run.proofs.Elements.{element_set, none_set}
use Rattle.arr_run.proofs.statement.set_element.Goals as goal

pub returns-in_ok-array-clause-set : goal.returns-in_ok-array-clause-set
returns-in_ok-array-clause-set g c =
    c.replace.ensures.new
    ∙ (λ i. with_binding c.args.name (Value c.in-Some.shape (c.in_ok-array.ensures i)) (c.in-Some.ensures.hole i))
    ∙ element_set g.M.Machine.operations c.args.name c.args.place c.in-Some.shape c.in-Some.array c.args.element c.args.scope.now (sym c.take.ensures.array ∙ c.in-Some.is)

pub returns-in_default-clause-set : goal.returns-in_default-clause-set
returns-in_default-clause-set g c =
    c.in_default.ensures.none
    ∙ sym (none_set g.M.Machine.operations c.args.name c.args.place c.args.element c.args.scope.now (sym c.take.ensures.array ∙ c.in_default.is))

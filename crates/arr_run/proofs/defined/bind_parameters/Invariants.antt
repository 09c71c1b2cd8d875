use Rattle.std.proofs.Common.{◌≡◌, ◌++◌, drop}
use Rattle.std.specs.Prelude.{map, reverse}
use Rattle.arr_ast.specs.ExpressionTree.{NameTree, name_tree}
use Rattle.arr_run.specs.Expression.{parameters_bound}
use Rattle.arr_run.proofs.defined.bind_parameters.Given as goal

abbrev pub invariant-each : goal.invariant-each
invariant-each g l =
    parameters_bound (map (λ (parameter : NameTree). parameter.number) (map name_tree l.parameters)) l.fn.values.items
    ≡ l.names ++ parameters_bound (map (λ (parameter : NameTree). parameter.number) (map name_tree (drop l.parameter-index l.parameters))) (reverse l.left.items)

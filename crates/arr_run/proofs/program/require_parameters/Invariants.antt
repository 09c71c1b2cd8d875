use Rattle.std.proofs.Common.{◌≡◌, [], ◌∷◌, drop, take}
use Rattle.std.specs.Prelude.{map}
use Rattle.arr_ast.specs.ExpressionTree.{name_tree}
use Rattle.arr_run.specs.Definitions.{if_parameters}
use Rattle.arr_run.specs.Steps.{newest_first}
use Rattle.arr_run.proofs.program.require_parameters.Given as goal

abbrev pub invariant-each : goal.invariant-each
invariant-each g l =
    if_parameters (name_tree l.definition.name ∷ []) (map name_tree l.parameters) l.scope (newest_first l.earlier)
    ≡ if_parameters (name_tree l.definition.name ∷ map name_tree (take l.place l.parameters)) (map name_tree (drop l.place l.parameters)) l.scope (newest_first l.earlier)

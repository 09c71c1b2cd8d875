use Rattle.std.proofs.Common.{◌≡◌, drop}
use Rattle.std.specs.Prelude.{map}
use Rattle.arr_ast.specs.ExpressionTree.{name_tree}
use Rattle.arr_run.specs.Definitions.{is_among}
use Rattle.arr_run.proofs.program.is_among.Given as goal

abbrev pub invariant-each : goal.invariant-each
invariant-each l = is_among l.number (map name_tree l.names) ≡ is_among l.number (map name_tree (drop l.name-index l.names))

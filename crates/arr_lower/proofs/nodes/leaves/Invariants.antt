use Rattle.std.proofs.Common.{◌≡◌}
use Rattle.arr_lower.specs.Operations.{leaf_nodes}
use Rattle.arr_lower.proofs.MadeInTurn.{made_of}
use Rattle.arr_lower.proofs.nodes.leaves.Given as goal

abbrev pub invariant-each : goal.invariant-each
invariant-each l = leaf_nodes l.number l.fn.nodes ≡ made_of l.found.items l.nodes

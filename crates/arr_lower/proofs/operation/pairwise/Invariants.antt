use Rattle.std.proofs.Common.{◌≡◌, drop, length}
use Rattle.std.specs.List.{zip}
use Rattle.arr_lower.specs.Operations.{made_after, operation_node, pairwise_nodes}
use Rattle.arr_lower.proofs.operation.pairwise.Given as goal

abbrev pub invariant-each : goal.invariant-each
invariant-each l =
    pairwise_nodes l.kind l.left l.right l.fn.nodes
    ≡ made_after (operation_node l.kind) (drop (length l.yielded) (zip l.left l.right)) (record { items = l.items.items; nodes = l.nodes })

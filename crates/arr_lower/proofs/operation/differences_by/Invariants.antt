use Rattle.std.proofs.Common.{◌≡◌, drop, length}
use Rattle.std.specs.List.{zip}
use Rattle.arr_lower.specs.Operations.{made_after, made_each, difference_node}
use Rattle.arr_lower.proofs.operation.differences_by.Given as goal

abbrev pub invariant-each : goal.invariant-each
invariant-each l =
    made_each (difference_node l.factor) (zip l.left l.right) l.fn.nodes
    ≡ made_after (difference_node l.factor) (drop (length l.yielded) (zip l.left l.right)) (record { items = l.items.items; nodes = l.nodes })

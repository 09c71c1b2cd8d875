use Rattle.std.proofs.Common.{◌≡◌, drop}
use Rattle.circuit_core.specs.declared.gate.Kind.TheVariants.{Mul}
use Rattle.arr_lower.specs.Operations.{made_after, operation_node, scaled_nodes}
use Rattle.arr_lower.proofs.operation.scaled.Given as goal

abbrev pub invariant-each : goal.invariant-each
invariant-each l =
    scaled_nodes l.factor l.items l.fn.nodes
    ≡ made_after (λ item. operation_node Mul (l.factor, item)) (drop l.item-index l.items) (record { items = l.found.items; nodes = l.nodes })

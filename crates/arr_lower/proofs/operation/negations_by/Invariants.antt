use Rattle.std.proofs.Common.{◌≡◌, drop}
use Rattle.circuit_core.specs.declared.gate.Kind.TheVariants.{Mul}
use Rattle.arr_lower.specs.Operations.{made_after, made_each, operation_node}
use Rattle.arr_lower.proofs.operation.negations_by.Given as goal

abbrev pub invariant-each : goal.invariant-each
invariant-each l =
    made_each (λ item. operation_node Mul (item, l.factor)) l.items l.fn.nodes
    ≡ made_after (λ item. operation_node Mul (item, l.factor)) (drop l.item-index l.items) (record { items = l.found.items; nodes = l.nodes })

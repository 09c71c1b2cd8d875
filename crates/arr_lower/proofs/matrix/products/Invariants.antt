use Rattle.std.proofs.Common.{◌≡◌, ◌+◌, ◌*◌, map, get_or, drop}
use Rattle.std.specs.List.{range_with_len}
use Rattle.circuit_core.specs.declared.gate.Kind.TheVariants.{Mul}
use Rattle.arr_lower.specs.Operations.{made_after, made_each, operation_node}
use Rattle.arr_lower.proofs.matrix.products.Given as goal

abbrev pub invariant-each : goal.invariant-each
invariant-each l =
    made_each (operation_node Mul) (map (λ k. (get_or l.left (l.i * l.m + k) 0, get_or l.right (k * l.q + l.j) 0)) (range_with_len 0 l.m)) l.fn.nodes
    ≡ made_after (operation_node Mul) (drop l.l (map (λ k. (get_or l.left (l.i * l.m + k) 0, get_or l.right (k * l.q + l.j) 0)) (range_with_len 0 l.m))) (record { items = l.found.items; nodes = l.nodes })

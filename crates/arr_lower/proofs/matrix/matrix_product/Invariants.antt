use Rattle.std.proofs.Common.{◌≡◌, ◌*◌, drop}
use Rattle.std.specs.List.{range_with_len}
use Rattle.arr_lower.specs.Operations.{made_after, dot_node, product_pairs, matmul_nodes}
use Rattle.arr_lower.proofs.matrix.matrix_product.Given as goal

abbrev pub invariant-each : goal.invariant-each
invariant-each l =
    matmul_nodes l.n l.m l.q l.left l.right l.fn.nodes
    ≡ made_after (λ k. dot_node (product_pairs l.m l.q l.left l.right k)) (drop l.k (range_with_len 0 (l.n * l.q))) (record { items = l.found.items; nodes = l.nodes })

-- The leaves so far are those of the nodes passed
use Rattle.std.proofs.Common.{◌≡◌, map, take}
use Rattle.node_core.specs.Nodes.{node_at}
use Rattle.layer_compile.specs.Circuits.{leaf_of}
use Rattle.layer_compile.proofs.plan.Plan.leaves_of.Given as goal

abbrev pub invariant-loop-k : goal.invariant-loop-k
invariant-loop-k l = l.leaves.items ≡ map (λ k. leaf_of (node_at l.self.list.now k)) (take l.k-index l.nodes)

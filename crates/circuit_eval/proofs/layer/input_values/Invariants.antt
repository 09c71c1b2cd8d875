-- The values so far are those of the leaves passed, and then padding
use Rattle.std.proofs.Common.{◌≡◌, ◌≤◌, ◌+◌, ◌-◌, ◌∷◌, ◌++◌, map, take, length, replicate}
use Rattle.circuit_core.specs.Parts.{leaf_value, zero_f}
use Rattle.circuit_eval.proofs.layer.input_values.Given as goal

abbrev pub invariant-loop-leaf : goal.invariant-loop-leaf
invariant-loop-leaf l = l.values.items ≡ zero_f ∷ map (leaf_value l.inputs) (take l.leaf-index l.leaf-items)

abbrev pub invariant-loop : goal.invariant-loop
invariant-loop l = record {
  filled : l.values.items ≡ zero_f ∷ (map (leaf_value l.inputs) l.circuit.parts.leaves ++ replicate (l.counter - (1 + length l.circuit.parts.leaves)) zero_f);
  past : 1 + length l.circuit.parts.leaves ≤ l.counter;
}

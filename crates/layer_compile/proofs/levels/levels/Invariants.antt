-- The levels so far are those of the nodes passed
use Rattle.std.proofs.Common.{◌≡◌, ◌≤◌, All, take}
use Rattle.node_core.specs.Order.{made_in_order}
use Rattle.layer_compile.specs.Levels.{level_of}
use Rattle.layer_compile.proofs.levels.levels.Given as goal

abbrev pub invariant-loop-node : goal.invariant-loop-node
invariant-loop-node l = record {
  made : l.levels.items ≡ made_in_order level_of (take l.node-index l.node-items);
  small : All (λ level. level ≤ l.node-index) l.levels.items;
}

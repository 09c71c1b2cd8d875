-- The leaves before have their values with the inputs that are read
use Rattle.std.proofs.Common.{◌≡◌, List, length}
use Rattle.field_ext.specs.Field.{F}
use Rattle.audit_core.specs.Leaves.{AreLeafValues, GiveValues}
use Rattle.audit_core.proofs.inputs.read_leaves.Given as goal

abbrev pub invariant-loop-i : goal.invariant-loop-i
invariant-loop-i l = record {
  size : length l.inputs ≡ length l.fn.inputs;
  read : (wanted : List F) → AreLeafValues wanted l.leaves l.table.items → GiveValues l.inputs wanted l.leaves l.i;
}

-- The layers so far are those of the heights passed
use Rattle.std.proofs.Common.{◌≡◌, ◌+◌, None, reverse}
use Rattle.circuit_core.specs.Faults.{first_below}
use Rattle.layer_compile.specs.Rows.{row}
use Rattle.layer_compile.specs.Circuits.{layers_from, too_wide}
use Rattle.layer_compile.proofs.plan.Plan.layers.Given as goal

abbrev pub invariant-loop-height : goal.invariant-loop-height
invariant-loop-height l = record {
  below : l.below.items ≡ row l.self.list.now l.height;
  narrow : first_below (l.height + 1) (too_wide l.limits l.self.list.now) ≡ None;
  made : l.layers.items ≡ reverse (layers_from l.self.list.now l.height);
}

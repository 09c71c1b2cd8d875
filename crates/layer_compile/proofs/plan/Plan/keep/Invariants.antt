-- The row above is merged as far as the nodes passed
use Rattle.std.proofs.Common.{◌≤◌}
use Rattle.layer_compile.specs.Rows.{IsMerged}
use Rattle.layer_compile.specs.Circuits.{AreGatesAbove}
use Rattle.layer_compile.proofs.plan.Plan.keep.Given as goal

abbrev pub invariant-loop-i : goal.invariant-loop-i
invariant-loop-i l = record {
  merged : IsMerged l.self.list.now l.height l.from l.i l.above.nodes.items;
  gates : AreGatesAbove l.self.list.now l.height l.above.nodes.items l.above.gates.items;
  later : l.fn.from ≤ l.from;
  before : l.from ≤ l.to;
}

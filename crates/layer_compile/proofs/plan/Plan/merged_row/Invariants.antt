-- The row above is merged up to the next node of the next level
use Rattle.std.proofs.Common.{◌≡◌, ◌≤◌, ◌<◌, ◌-◌, suc, true, length}
use Rattle.layer_compile.specs.Levels.{levels}
use Rattle.layer_compile.specs.Next.{has_level}
use Rattle.layer_compile.specs.Rows.{IsMerged}
use Rattle.layer_compile.specs.Circuits.{AreGatesAbove}
use Rattle.layer_compile.proofs.plan.Plan.merged_row.Given as goal

abbrev pub invariant-loop-new : goal.invariant-loop-new
invariant-loop-new l = record {
  merged : IsMerged l.self.list.now l.height l.new l.taken l.above.nodes.items;
  gates : AreGatesAbove l.self.list.now l.height l.above.nodes.items l.above.gates.items;
  within : l.new ≤ length l.self.list.now.nodes;
  here : l.new < length l.self.list.now.nodes → has_level (levels l.self.list.now) (suc l.height) l.new ≡ true;
}

abbrev pub decreases-loop-new : goal.decreases-loop-new
decreases-loop-new l = length l.self.list.now.nodes - l.new

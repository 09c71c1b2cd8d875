-- The tables are not lent
use Rattle.std.proofs.Common.{◌≡◌, []}
use Rattle.layer_bench.proofs.stages.time_phase.Given as goal

abbrev pub invariant-loop-r : goal.invariant-loop-r
invariant-loop-r l = l.tables.lent ≡ []

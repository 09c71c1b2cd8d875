-- A step for each turn
use Rattle.std.proofs.Common.{◌≡◌, ◌+◌}
use Rattle.gate_gather.proofs.gathering.tick_each.Given as goal

abbrev pub invariant-loop-step : goal.invariant-loop-step
invariant-loop-step g l = l.steps ≡ l.fn.steps + l.step

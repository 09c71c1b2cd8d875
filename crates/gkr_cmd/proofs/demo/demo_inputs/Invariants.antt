use Rattle.std.proofs.Common.{◌≡◌}
use Rattle.gkr_cmd.specs.Demo.{demo_inputs}
use Rattle.gkr_cmd.proofs.demo.demo_inputs.Given as goal

abbrev pub invariant-loop-j : goal.invariant-loop-j
invariant-loop-j l = l.inputs.items ≡ demo_inputs l.number l.j

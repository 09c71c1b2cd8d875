-- The greatest so far and that of the outputs left make the whole
use Rattle.std.proofs.Common.{◌≡◌, drop, get_or, max}
use Rattle.layer_compile.specs.Levels.{greatest}
use Rattle.layer_compile.proofs.levels.greatest_level.Given as goal

abbrev pub invariant-loop-output : goal.invariant-loop-output
invariant-loop-output l = max l.greatest (greatest (λ k. get_or l.levels k 0) (drop l.output-index l.outputs)) ≡ greatest (λ k. get_or l.levels k 0) l.outputs

-- The tables are not lent
use Rattle.std.proofs.Common.{◌≡◌, []}
use Rattle.layer_bench.proofs.proving.prove_rounds.Given as goal

abbrev pub invariant-loop-r : goal.invariant-loop-r
invariant-loop-r g l = l.tables.lent ≡ []

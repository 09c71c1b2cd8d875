-- The tables are not lent
use Rattle.std.proofs.Common.{◌≡◌, []}
use Rattle.layer_tests.proofs.messages.follows.Given as goal

abbrev pub invariant-loop-coefficients : goal.invariant-loop-coefficients
invariant-loop-coefficients g l = l.sum.lent ≡ []

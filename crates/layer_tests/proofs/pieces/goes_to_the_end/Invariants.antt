-- The tables are not lent
use Rattle.std.proofs.Common.{◌≡◌, []}
use Rattle.layer_tests.proofs.pieces.goes_to_the_end.Given as goal

abbrev pub invariant-loop-number_of_round : goal.invariant-loop-number_of_round
invariant-loop-number_of_round g l = l.sum.lent ≡ []

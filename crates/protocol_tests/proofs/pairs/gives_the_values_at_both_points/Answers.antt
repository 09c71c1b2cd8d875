-- There are four values, which is two to the second
use Rattle.std.proofs.Common.{rules}
use Rattle.protocol_tests.proofs.pairs.gives_the_values_at_both_points.Goals as goal

pub of-requires : goal.of-requires
of-requires g c = (2, search rules)

use Rattle.std.proofs.Common.{◌≡◌, ◌++◌, length}
use Rattle.session_prove.specs.Challenges.{challenges_in}
use Rattle.session_prove.proofs.challenges.challenges_in.Given as goal

abbrev pub invariant-loop-rest : goal.invariant-loop-rest
invariant-loop-rest l = l.challenges.items ++ challenges_in l.rest ≡ challenges_in l.words

abbrev pub decreases-loop-rest : goal.decreases-loop-rest
decreases-loop-rest l = length l.rest

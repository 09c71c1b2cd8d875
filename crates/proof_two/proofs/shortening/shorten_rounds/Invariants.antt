use Rattle.std.proofs.Common.{◌≡◌, map, take}
use Rattle.proof_two.specs.Lists.{short_round}
use Rattle.proof_two.proofs.shortening.shorten_rounds.Given as goal

abbrev pub invariant-loop-round : goal.invariant-loop-round
invariant-loop-round l = l.rounds.items ≡ map short_round (take l.round-index l.from)

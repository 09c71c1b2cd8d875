use Rattle.std.proofs.lemmas.Grind.{common_steps}
use Rattle.std.proofs.Common.{rules, arith}
use Rattle.gkr_prove.proofs.rounds.note.Goals as goal

pub challenge-challenge-requires : goal.challenge-challenge-requires
challenge-challenge-requires g c = search rules

pub returns : goal.returns
returns g c = grind (arith, common_steps)

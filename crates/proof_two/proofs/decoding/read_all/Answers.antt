use Rattle.std.proofs.lemmas.Grind.{common_steps}
use Rattle.std.proofs.Common.{rules, arith}
use Rattle.proof_two.proofs.decoding.read_all.Goals as goal

pub returns-clause-found : goal.returns-clause-found
returns-clause-found c = grind (arith, common_steps)

pub returns-then-at-lt4-clause-exact : goal.returns-then-at-lt4-clause-exact
returns-then-at-lt4-clause-exact c = search rules

pub returns-then-at-need-clause-exact : goal.returns-then-at-need-clause-exact
returns-then-at-need-clause-exact c = search rules

pub returns-then-need-at-clause-exact : goal.returns-then-need-at-clause-exact
returns-then-need-at-clause-exact c = search rules

pub returns-clause-count : goal.returns-clause-count
returns-clause-count c = search rules

use Rattle.std.proofs.lemmas.Grind.{common_steps}
use Rattle.std.proofs.Common.{rules, arith}
use Rattle.layer_compile.proofs.uses.uses.Goals as goal

pub returns-in_err-uses-clause-uses : goal.returns-in_err-uses-clause-uses
returns-in_err-uses-clause-uses g = search rules

pub returns-in_err-uses-clause-len : goal.returns-in_err-uses-clause-len
returns-in_err-uses-clause-len g = search rules

pub returns-clause-uses : goal.returns-clause-uses
returns-clause-uses g = grind (arith, common_steps)

use Rattle.std.proofs.lemmas.Grind.{common_steps}
use Rattle.std.proofs.Common.{rules, arith}
use Rattle.arr_run.proofs.expression.do_task.Goals as goal

pub returns-in_err-shape-in-Opposite-clause-value : goal.returns-in_err-shape-in-Opposite-clause-value
returns-in_err-shape-in-Opposite-clause-value g c = search rules

pub returns-in_err-shape-in-Opposite-clause-work : goal.returns-in_err-shape-in-Opposite-clause-work
returns-in_err-shape-in-Opposite-clause-work g c = search rules

pub returns-in_err-shape-in-Single-clause-value : goal.returns-in_err-shape-in-Single-clause-value
returns-in_err-shape-in-Single-clause-value g c = search rules

pub returns-in_err-shape-in-Single-clause-work : goal.returns-in_err-shape-in-Single-clause-work
returns-in_err-shape-in-Single-clause-work g c = search rules

pub returns-in_err-shape-in-Right-clause-value : goal.returns-in_err-shape-in-Right-clause-value
returns-in_err-shape-in-Right-clause-value g c = search rules

pub returns-in_err-shape-in-Right-clause-work : goal.returns-in_err-shape-in-Right-clause-work
returns-in_err-shape-in-Right-clause-work g c = search rules

pub unreachable-requires : goal.unreachable-requires
unreachable-requires g c = search rules

pub unreachable-unreachable : goal.unreachable-unreachable
unreachable-unreachable g c = search rules

pub returns-in-Terms-clause-value : goal.returns-in-Terms-clause-value
returns-in-Terms-clause-value g c = search rules

pub returns-in-Terms-clause-work : goal.returns-in-Terms-clause-work
returns-in-Terms-clause-work g c = search rules

pub returns-in-Signed-clause-value : goal.returns-in-Signed-clause-value
returns-in-Signed-clause-value g c = search rules

pub returns-in-Signed-clause-work : goal.returns-in-Signed-clause-work
returns-in-Signed-clause-work g c = search rules

pub returns-in-Factors-clause-value : goal.returns-in-Factors-clause-value
returns-in-Factors-clause-value g c = search rules

pub returns-in-Factors-clause-work : goal.returns-in-Factors-clause-work
returns-in-Factors-clause-work g c = search rules

pub returns-in-Product-clause-value : goal.returns-in-Product-clause-value
returns-in-Product-clause-value g c = search rules

pub returns-in-Product-clause-work : goal.returns-in-Product-clause-work
returns-in-Product-clause-work g c = search rules

pub returns-in_ok-shape-in-Opposite-clause-value : goal.returns-in_ok-shape-in-Opposite-clause-value
returns-in_ok-shape-in-Opposite-clause-value g c = search rules

pub returns-in_ok-shape-in-Opposite-clause-work : goal.returns-in_ok-shape-in-Opposite-clause-work
returns-in_ok-shape-in-Opposite-clause-work g c = search rules

pub returns-in_ok-shape-in-Single-clause-value : goal.returns-in_ok-shape-in-Single-clause-value
returns-in_ok-shape-in-Single-clause-value g c = search rules

pub returns-in_ok-shape-in-Single-clause-work : goal.returns-in_ok-shape-in-Single-clause-work
returns-in_ok-shape-in-Single-clause-work g c = search rules

pub returns-in-Left-clause-value : goal.returns-in-Left-clause-value
returns-in-Left-clause-value g c = grind (arith, common_steps)

pub returns-in-Left-clause-work : goal.returns-in-Left-clause-work
returns-in-Left-clause-work g c = search rules

pub returns-in_ok-shape-in-Right-clause-value : goal.returns-in_ok-shape-in-Right-clause-value
returns-in_ok-shape-in-Right-clause-value g c = search rules

pub returns-in_ok-shape-in-Right-clause-work : goal.returns-in_ok-shape-in-Right-clause-work
returns-in_ok-shape-in-Right-clause-work g c = search rules

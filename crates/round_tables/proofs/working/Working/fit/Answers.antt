use Rattle.std.proofs.Common.{rules, arith}
use Rattle.std.proofs.lemmas.Grind.{common_steps}
use Rattle.round_tables.proofs.working.Working.fit.Goals as goal

pub power-size-requires : goal.power-size-requires
power-size-requires g = search rules

pub overflow_mul-k : goal.overflow_mul-k
overflow_mul-k g = search rules

pub returns-in_err-resize : goal.returns-in_err-resize
returns-in_err-resize g = search rules

pub returns-in_err-resize-2 : goal.returns-in_err-resize-2
returns-in_err-resize-2 g = search rules

pub returns-in_err-resize-3 : goal.returns-in_err-resize-3
returns-in_err-resize-3 g = search rules

pub power-requires : goal.power-requires
power-requires g = search rules

pub overflow_sub-k : goal.overflow_sub-k
overflow_sub-k g = search rules

pub power-requires-2 : goal.power-requires-2
power-requires-2 g = search rules

pub returns-in_err-fit_parts : goal.returns-in_err-fit_parts
returns-in_err-fit_parts g = search rules

pub power-requires-3 : goal.power-requires-3
power-requires-3 g = grind (arith, common_steps)

pub returns : goal.returns
returns g = search rules

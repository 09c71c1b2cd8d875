use Rattle.std.proofs.Common.{rules}
use Rattle.layer_compile.proofs.chains.link.Goals as goal

pub loop-k-init : goal.loop-k-init
loop-k-init g = search rules

pub overflow_step-k : goal.overflow_step-k
overflow_step-k g = search rules

pub offset_bounds-levels-k : goal.offset_bounds-levels-k
offset_bounds-levels-k g = search rules

pub bounds-levels-k : goal.bounds-levels-k
bounds-levels-k g = search rules

pub offset_bounds-first-level : goal.offset_bounds-first-level
offset_bounds-first-level g = search rules

pub bounds-first-level : goal.bounds-first-level
bounds-first-level g = search rules

pub offset_bounds-next-k : goal.offset_bounds-next-k
offset_bounds-next-k g = search rules

pub bounds-next-k : goal.bounds-next-k
bounds-next-k g = search rules

pub overflow_cast-first : goal.overflow_cast-first
overflow_cast-first g = search rules

pub offset_bounds-first-level-in-loop-k : goal.offset_bounds-first-level-in-loop-k
offset_bounds-first-level-in-loop-k g = search rules

pub bounds-first-level-in-loop-k : goal.bounds-first-level-in-loop-k
bounds-first-level-in-loop-k g = search rules

pub loop-k-smaller : goal.loop-k-smaller
loop-k-smaller g = search rules

pub loop-k-preserved : goal.loop-k-preserved
loop-k-preserved g = search rules

pub returns : goal.returns
returns g = search rules

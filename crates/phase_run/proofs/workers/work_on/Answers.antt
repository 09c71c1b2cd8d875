use Rattle.std.proofs.Common.{rules, arith}
use Rattle.std.proofs.lemmas.Grind.{common_steps}
use Rattle.phase_run.proofs.workers.work_on.Goals as goal

pub overflow_add-turn-end : goal.overflow_add-turn-end
overflow_add-turn-end g c = search rules

pub loop-turn-init : goal.loop-turn-init
loop-turn-init g c = search rules

pub claim-requires-clause-board : goal.claim-requires-clause-board
claim-requires-clause-board g c = search rules

pub claim-requires-clause-going : goal.claim-requires-clause-going
claim-requires-clause-going g c = search rules

pub returns-in_default-clause-claimer : goal.returns-in_default-clause-claimer
returns-in_default-clause-claimer g c = search rules

pub returns-in_default-clause-done : goal.returns-in_default-clause-done
returns-in_default-clause-done g c = search rules

pub work-requires : goal.work-requires
work-requires g c = search rules

pub returns-in_default-work-clause-claimer : goal.returns-in_default-work-clause-claimer
returns-in_default-work-clause-claimer g c = search rules

pub returns-in_default-work-clause-done : goal.returns-in_default-work-clause-done
returns-in_default-work-clause-done g c = search rules

pub returns-then-is_err-clause-claimer : goal.returns-then-is_err-clause-claimer
returns-then-is_err-clause-claimer g c = search rules

pub returns-then-is_err-clause-done : goal.returns-then-is_err-clause-done
returns-then-is_err-clause-done g c = search rules

pub loop-turn-preserved : goal.loop-turn-preserved
loop-turn-preserved g c = grind (arith, common_steps)

pub unreachable-requires : goal.unreachable-requires
unreachable-requires g c = search rules

pub unreachable-unreachable : goal.unreachable-unreachable
unreachable-unreachable g c = search rules

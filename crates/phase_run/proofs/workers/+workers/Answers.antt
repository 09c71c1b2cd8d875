use Rattle.std.proofs.Common.{rules, arith}
use Rattle.std.proofs.lemmas.Grind.{common_steps}
use Rattle.phase_run.proofs.workers.+workers.Goals as goal

pub back-spread-requires : goal.back-spread-requires
back-spread-requires g c = search rules

pub back-returns : goal.back-returns
back-returns g c = search rules

pub fn::spread::back+FnOnce::call_once-back-requires : goal.fn::spread::back+FnOnce::call_once-back-requires
fn::spread::back+FnOnce::call_once-back-requires g c = search rules

pub fn::spread::back+FnOnce::call_once-returns : goal.fn::spread::back+FnOnce::call_once-returns
fn::spread::back+FnOnce::call_once-returns g c = search rules

pub front-spread-requires : goal.front-spread-requires
front-spread-requires g c = search rules

pub front-returns : goal.front-returns
front-returns g c = search rules

pub fn::spread::front+FnOnce::call_once-front-requires : goal.fn::spread::front+FnOnce::call_once-front-requires
fn::spread::front+FnOnce::call_once-front-requires g c = search rules

pub fn::spread::front+FnOnce::call_once-returns : goal.fn::spread::front+FnOnce::call_once-returns
fn::spread::front+FnOnce::call_once-returns g c = search rules

pub work_on-requires-clause-board : goal.work_on-requires-clause-board
work_on-requires-clause-board g c = search rules

pub work_on-requires-clause-pieces : goal.work_on-requires-clause-pieces
work_on-requires-clause-pieces g c = search rules

pub work_on-requires-clause-fresh : goal.work_on-requires-clause-fresh
work_on-requires-clause-fresh g c = search rules

pub returns-then-shares-eq1-clause-claimer : goal.returns-then-shares-eq1-clause-claimer
returns-then-shares-eq1-clause-claimer g c = search rules

pub returns-then-shares-eq1-clause-done : goal.returns-then-shares-eq1-clause-done
returns-then-shares-eq1-clause-done g c = search rules

pub overflow_sub-left : goal.overflow_sub-left
overflow_sub-left g c = search rules

pub overflow_add-second : goal.overflow_add-second
overflow_add-second g c = search rules

pub split-theirs-requires-clause-board : goal.split-theirs-requires-clause-board
split-theirs-requires-clause-board g c = search rules

pub split-theirs-requires-clause-give : goal.split-theirs-requires-clause-give
split-theirs-requires-clause-give g c = search rules

pub join-mine-requires-after_bounds : goal.join-mine-requires-after_bounds
join-mine-requires-after_bounds g c = search rules

pub join-requires : goal.join-requires
join-requires g c = search rules

pub returns-clause-claimer : goal.returns-clause-claimer
returns-clause-claimer g c = search rules

pub returns-clause-done : goal.returns-clause-done
returns-clause-done g c = grind (arith, common_steps)

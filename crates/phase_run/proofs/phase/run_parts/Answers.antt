use Rattle.std.proofs.Common.{rules, ◌≡◌, ◌∙◌, slice_get, ap, IsTrue}
use Rattle.phase_run.proofs.Changed.{all_worked}
use Rattle.phase_run.proofs.phase.run_parts.Goals as goal

pub returns-clause-each : goal.returns-clause-each
returns-clause-each g c = let f = g.W.PartWork.part_of c.args.work.now in let board = c.in_ok-board.board in let claimer = c.spread-claimer.result in
    let same : board.parts ≡ c.args.parts.items = search rules in
    let all : IsTrue c.close-all.result.all = c.close-all.ensures.stopped (search rules) in
    λ k x at. all_worked f board.parts claimer.put claimer.drawn c.close-all.result.parts.items (c.close-all.ensures.all.0 all) c.spread-claimer.ensures.worked c.close-all.ensures.put k x (ap (λ l. slice_get l k) same ∙ at)

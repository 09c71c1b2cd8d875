use Rattle.std.proofs.Common.{rules, ◌≡◌, ◌++◌, ◌∷◌, [], ◌≤◌, ap, length, length-append, arith}
use Rattle.phase_run.proofs.Changed.{worked_step}
use Rattle.phase_run.proofs.part_workers.work_on.Goals as goal

pub loop-turn-preserved : goal.loop-turn-preserved
loop-turn-preserved g c = let i = c.loop-turn.invariant in let before = c.loop-turn.claimer in
    let drawn : c.put_back.new.claimer.drawn ≡ before.drawn ++ c.in-Some.k ∷ [] = search rules in
    let put : c.put_back.new.claimer.put ≡ before.put ++ (c.in-Some.k, c.work.new.part) ∷ [] = search rules in
    let few : length c.put_back.new.claimer.drawn ≤ length c.args.board.now.parts = search rules in record {
      board = search rules;
      same = search rules;
      going = search rules;
      free = search rules;
      few = few;
      turns = let l = ap length drawn in let t = i.turns in omega (arith, length-append before.drawn (c.in-Some.k ∷ []));
      done = worked_step (g.W.PartWork.part_of c.args.work.now) c.args.board.now.parts before.put before.drawn c.in-Some.k c.in-Some.part c.work.new.part _ _ put drawn i.done (search rules) c.work.ensures;
    }

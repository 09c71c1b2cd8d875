-- The parts passed are worked
use Rattle.sumcheck_prove.proofs.Worked.{AreWorked}
use Rattle.sumcheck_prove.proofs.workers.work_alone.Given as goal

abbrev pub invariant-loop-k : goal.invariant-loop-k
invariant-loop-k g l = AreWorked (g.W.PartWork.part_of l.work) l.fn.parts.items l.k l.parts.items

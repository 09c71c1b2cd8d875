-- One part more
use Rattle.std.proofs.Common.{rules, arith}
use Rattle.std.proofs.lemmas.Grind.{elements}
use Rattle.sumcheck_prove.proofs.workers.work_alone.Goals as goal

pub loop-k-init : goal.loop-k-init
loop-k-init g c = search rules

pub index_mut-requires : goal.index_mut-requires
index_mut-requires g c = search rules

pub loop-k-preserved : goal.loop-k-preserved
loop-k-preserved g c = grind (arith, elements)

pub returns-clause-len : goal.returns-clause-len
returns-clause-len g c = search rules

pub returns-clause-each : goal.returns-clause-each
returns-clause-each g c = grind (arith, elements)

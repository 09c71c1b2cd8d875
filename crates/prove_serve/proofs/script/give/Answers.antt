use Rattle.std.proofs.Common.{rules}
use Rattle.prove_serve.proofs.script.give.Goals as goal

pub returns-clause-jobs : goal.returns-clause-jobs
returns-clause-jobs g c = search rules

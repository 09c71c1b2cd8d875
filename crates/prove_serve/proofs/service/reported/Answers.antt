use Rattle.std.proofs.Common.{rules}
use Rattle.prove_serve.proofs.service.reported.Goals as goal

pub returns-in-Done-Memory : goal.returns-in-Done-Memory
returns-in-Done-Memory g c = search rules

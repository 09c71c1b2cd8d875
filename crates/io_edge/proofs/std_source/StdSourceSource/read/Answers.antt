use Rattle.std.proofs.Common.{rules}
use Rattle.io_edge.proofs.std_source.StdSourceSource.read.Goals as goal

pub returns-in-Err-clause-cause : goal.returns-in-Err-clause-cause
returns-in-Err-clause-cause g c = search rules

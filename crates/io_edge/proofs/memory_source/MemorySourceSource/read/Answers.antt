use Rattle.std.proofs.Common.{rules}
use Rattle.io_edge.proofs.memory_source.MemorySourceSource.read.Goals as goal

pub returns-then-next_fails-clause-bytes : goal.returns-then-next_fails-clause-bytes
returns-then-next_fails-clause-bytes c = search rules

use Rattle.std.proofs.Common.{rules}
use Rattle.io_edge.proofs.memory_sink.MemorySinkSink.write.Goals as goal

pub returns-then-free-eq0-clause-cause : goal.returns-then-free-eq0-clause-cause
returns-then-free-eq0-clause-cause c = search rules

pub unreachable-requires : goal.unreachable-requires
unreachable-requires c = search rules

pub invariant_of-self-2 : goal.invariant_of-self-2
invariant_of-self-2 c = search rules

pub returns-clause-bytes : goal.returns-clause-bytes
returns-clause-bytes c = search rules

use Rattle.std.proofs.Common.{rules}
use Rattle.io_edge.proofs.std_sink.StdSinkSink.write.Goals as goal

pub returns-in-Ok-clause-count : goal.returns-in-Ok-clause-count
returns-in-Ok-clause-count g c = search rules

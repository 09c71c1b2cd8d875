use Rattle.std.proofs.Common.{rules}
use Rattle.io_edge.proofs.steady_sink.SteadySinkSink.write.Goals as goal

pub returns-then-piece-self-clause-bytes : goal.returns-then-piece-self-clause-bytes
returns-then-piece-self-clause-bytes c = search rules

pub returns-then-piece-self-clause-is_known : goal.returns-then-piece-self-clause-is_known
returns-then-piece-self-clause-is_known c = search rules

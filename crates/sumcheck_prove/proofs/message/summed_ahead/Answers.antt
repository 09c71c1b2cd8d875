-- The pieces may be shared among threads
use Rattle.sumcheck_prove.proofs.Crossing.{sums_sync}
use Rattle.sumcheck_prove.proofs.message.summed_ahead.Goals as goal

pub run-requires-sync-W : goal.run-requires-sync-W
run-requires-sync-W g c κs within = record { shared = (sums_sync record { mir = mir.Syntax.named 0; lft = _ } record { mir = mir.Syntax.named 0; lft = _ }).shared }

use Rattle.std.proofs.Common.{rules}
use Rattle.transcript_fs.proofs.feeding.feed_numbers.Goals as goal

pub loop-number-init : goal.loop-number-init
loop-number-init c = search rules

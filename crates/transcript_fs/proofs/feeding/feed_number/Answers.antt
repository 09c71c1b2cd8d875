use Rattle.std.proofs.Common.{rules}
use Rattle.transcript_fs.proofs.feeding.feed_number.Goals as goal

pub returns : goal.returns
returns c = search rules

use Rattle.std.proofs.Common.{rules}
use Rattle.transcript_fs.proofs.transcript.Transcript.start_pair.Goals as goal

pub returns : goal.returns
returns c = search rules

use Rattle.std.proofs.Common.{rules}
use Rattle.transcript_fs.proofs.given.GivenChallenges.absorb.Goals as goal

pub returns : goal.returns
returns c = search rules

use Rattle.std.proofs.Common.{rules}
use Rattle.live_session.proofs.verifier.LiveVerifier.progress.Goals as goal

pub returns-in-None-2 : goal.returns-in-None-2
returns-in-None-2 c = search rules

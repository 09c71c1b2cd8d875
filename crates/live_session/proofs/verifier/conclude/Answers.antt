use Rattle.std.proofs.Common.{rules}
use Rattle.live_session.proofs.verifier.conclude.Goals as goal

pub verdict-verdict-requires-clause-elements : goal.verdict-verdict-requires-clause-elements
verdict-verdict-requires-clause-elements c = search rules

pub returns-clause-waits : goal.returns-clause-waits
returns-clause-waits c = search rules

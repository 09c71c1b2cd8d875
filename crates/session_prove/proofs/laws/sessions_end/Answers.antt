use Rattle.session_prove.proofs.Ends.{ends}
use Rattle.session_prove.proofs.laws.sessions_end.Goals as goal

pub returns : goal.returns
returns c = ends

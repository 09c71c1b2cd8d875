use Rattle.session_prove.proofs.OneSession.{one_session}
use Rattle.session_prove.proofs.laws.one_session.Goals as goal

pub returns : goal.returns
returns c = one_session c.one_tree.ensures c.one_circuit.ensures

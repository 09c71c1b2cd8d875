-- Pieces, joined
use Rattle.live_session.proofs.SessionLaws.{one_progress, one_sent, one_state}
use Rattle.live_session.proofs.laws.one_state.Goals as goal

pub returns-clause-state : goal.returns-clause-state
returns-clause-state c s pieces = one_state s pieces

pub returns-clause-progress : goal.returns-clause-progress
returns-clause-progress c s before more = one_progress s before more

pub returns-clause-sent : goal.returns-clause-sent
returns-clause-sent c s = one_sent s

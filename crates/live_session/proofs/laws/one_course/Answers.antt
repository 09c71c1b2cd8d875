-- Bytes after those that were fed, and a fault with more after it
use Rattle.std.proofs.Common.{List, ℕ, ap, append_assoc}
use Rattle.live_session.proofs.api.ProverSteps.{stop_stays}
use Rattle.live_session.proofs.laws.one_course.Goals as goal

pub returns-clause-state : goal.returns-clause-state
returns-clause-state c s before more = ap (λ (bytes : List ℕ). record s { bytes = bytes }) (append_assoc s.bytes before more)

pub returns-clause-stop : goal.returns-clause-stop
returns-clause-stop c due before more fault stops = stop_stays due before more fault stops

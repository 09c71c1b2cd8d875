use Rattle.std.proofs.Common.{rules}
use Rattle.turn_lock.proofs.Moves.{look}
use Rattle.turn_lock.proofs.lock.wait_for.Goals as goal

pub load-found-requires : goal.load-found-requires
load-found-requires g c = let i = c.loop.invariant.2 in
    (search rules, search rules, look g.S.Storied.history g.S.Storied.owns g.S.Storied.fixed _ _ _ _ c.loop.seat.me (rw i c.requires.waits.0) (rw i c.requires.waits.1) (rw i c.requires.waits.2))

pub returns-then-found-ticket-clause-served : goal.returns-then-found-ticket-clause-served
returns-then-found-ticket-clause-served g c = search rules

pub loop-preserved : goal.loop-preserved
loop-preserved g c = search rules

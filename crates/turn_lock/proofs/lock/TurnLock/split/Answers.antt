use Rattle.std.proofs.Common.{rules}
use Rattle.turn_lock.proofs.lock.TurnLock.split.Goals as goal

pub cut-requires-clause-give : goal.cut-requires-clause-give
cut-requires-clause-give g c = search rules

pub returns-clause-kept : goal.returns-clause-kept
returns-clause-kept g c = search rules

pub returns-clause-given : goal.returns-clause-given
returns-clause-given g c = search rules

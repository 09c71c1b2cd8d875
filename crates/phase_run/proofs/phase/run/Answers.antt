use Rattle.std.proofs.Common.{rules}
use Rattle.phase_run.proofs.phase.run.Goals as goal

pub new-requires-clause-pieces : goal.new-requires-clause-pieces
new-requires-clause-pieces g c = search rules

pub new-requires-clause-shares : goal.new-requires-clause-shares
new-requires-clause-shares g c = search rules

pub returns-in_err-board : goal.returns-in_err-board
returns-in_err-board g c = search rules

pub spread-claimer-requires-clause-board : goal.spread-claimer-requires-clause-board
spread-claimer-requires-clause-board g c = search rules

pub spread-claimer-requires-clause-pieces : goal.spread-claimer-requires-clause-pieces
spread-claimer-requires-clause-pieces g c = search rules

pub spread-claimer-requires-clause-fresh : goal.spread-claimer-requires-clause-fresh
spread-claimer-requires-clause-fresh g c = search rules

pub spread-claimer-requires-clause-workers : goal.spread-claimer-requires-clause-workers
spread-claimer-requires-clause-workers g c = search rules

pub returns-in_err-results : goal.returns-in_err-results
returns-in_err-results g c = search rules

pub same-board : goal.same-board
same-board g c = search rules

pub same-claimer : goal.same-claimer
same-claimer g c = search rules

pub close-full-requires-clause-board : goal.close-full-requires-clause-board
close-full-requires-clause-board g c = search rules

pub close-full-requires-clause-whole : goal.close-full-requires-clause-whole
close-full-requires-clause-whole g c = search rules

pub prove-unreachable-requires : goal.prove-unreachable-requires
prove-unreachable-requires g c = search rules

pub unreachable-prove : goal.unreachable-prove
unreachable-prove g c = search rules

pub placed-requires-clause-pieces : goal.placed-requires-clause-pieces
placed-requires-clause-pieces g c = search rules

pub placed-requires-clause-outputs : goal.placed-requires-clause-outputs
placed-requires-clause-outputs g c = search rules

pub returns : goal.returns
returns g c = search rules

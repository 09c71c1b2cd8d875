use Rattle.std.proofs.Common.{rules}
use Rattle.gkr_cmd.proofs.run.gkr_run.Goals as goal

pub run_waiting-requires-clause-service : goal.run_waiting-requires-clause-service
run_waiting-requires-clause-service g c = search rules

pub returns-in-Some-clause-run : goal.returns-in-Some-clause-run
returns-in-Some-clause-run g c = search rules

pub returns-in-Some-clause-unread : goal.returns-in-Some-clause-unread
returns-in-Some-clause-unread g c = search rules

pub returns-in-None-clause-run : goal.returns-in-None-clause-run
returns-in-None-clause-run g c = search rules

pub returns-in-None-clause-unread : goal.returns-in-None-clause-unread
returns-in-None-clause-unread g c = search rules
